use Rattle.std.proofs.Common.{◌≡◌, ◌++◌, map, drop}
use Rattle.jwt_advice.specs.declared.notes.Note.TheVariants.{OfKey}
use Rattle.jwt_advice.proofs.notes.put_keys.Given as goal

abbrev pub invariant-loop-number : goal.invariant-loop-number
invariant-loop-number l =
    l.list.items ++ map (λ number. OfKey l.advice number) (drop l.number-index l.numbers) ≡ l.initial.list.items ++ map (λ number. OfKey l.advice number) l.numbers
