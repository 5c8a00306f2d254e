use Rattle.std.proofs.Common.{ap, sym, ◌∙◌}
use Rattle.jwt_possession.specs.declared.once.once.Times.{Times}
use Rattle.jwt_possession.proofs.laws.no_proof_twice.Goals as goal

pub returns : goal.returns
returns c policy other thumbprint claims one two last first second twice =
    c.never_twice.ensures one two last (ap (λ (t : Times). t.moment) first.1 ∙ sym (ap (λ (t : Times). t.moment) second.1)) twice
