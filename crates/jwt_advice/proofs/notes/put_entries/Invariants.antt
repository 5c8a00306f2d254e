use Rattle.std.proofs.Common.{◌≡◌, ◌++◌, map, drop}
use Rattle.jwt_advice.specs.declared.notes.Note.TheVariants.{PrivateEntry}
use Rattle.jwt_advice.proofs.notes.put_entries.Given as goal

abbrev pub invariant-loop-place : goal.invariant-loop-place
invariant-loop-place l =
    l.list.items ++ map (λ place. PrivateEntry place) (drop l.place-index l.entries) ≡ l.initial.list.items ++ map (λ place. PrivateEntry place) l.entries
