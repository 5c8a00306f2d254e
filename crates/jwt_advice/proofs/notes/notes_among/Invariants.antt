use Rattle.std.proofs.Common.{◌≡◌, ◌++◌, map, drop}
use Rattle.std.specs.List.{flat_map}
use Rattle.jwt_keys.specs.KeySets.{key_set}
use Rattle.jwt_advice.specs.Findings.{notes_of}
use Rattle.jwt_advice.proofs.notes.notes_among.Given as goal

abbrev pub invariant-loop-advice : goal.invariant-loop-advice
invariant-loop-advice g l =
    l.list.items ++ flat_map (notes_of l.policy (map (λ b. (goal.Verifier-dyn g (b.vtable, b.value)).meaning b.value) l.verifiers) (key_set l.keys).keys) (drop l.advice-index l.every)
    ≡ flat_map (notes_of l.policy (map (λ b. (goal.Verifier-dyn g (b.vtable, b.value)).meaning b.value) l.verifiers) (key_set l.keys).keys) l.every
