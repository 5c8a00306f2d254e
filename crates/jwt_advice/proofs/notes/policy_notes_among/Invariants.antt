use Rattle.std.proofs.Common.{◌≡◌, ◌++◌, drop}
use Rattle.std.specs.List.{flat_map}
use Rattle.jwt_advice.specs.Advised.{policy_advises}
use Rattle.jwt_advice.specs.Findings.{note_if}
use Rattle.jwt_advice.proofs.notes.policy_notes_among.Given as goal

abbrev pub invariant-loop-advice : goal.invariant-loop-advice
invariant-loop-advice l =
    l.list.items ++ flat_map (λ advice. note_if (policy_advises advice l.policy) advice) (drop l.advice-index l.every)
    ≡ flat_map (λ advice. note_if (policy_advises advice l.policy) advice) l.every
