use Rattle.std.proofs.Common.{ap, inl, arith}
use Rattle.jwt_possession.specs.declared.once.once.Times.{Times}
use Rattle.jwt_possession.proofs.Moments.{not_ahead}
use Rattle.jwt_possession.proofs.Runs.{late_where}
use Rattle.jwt_possession.proofs.once.laws.new_since.Goals as goal

pub returns : goal.returns
returns c policy claims accepted call old new ahead for taken before =
    let issued = c.issued_before.ensures policy claims accepted (λ iat there. not_ahead accepted policy.claims.leeway _ iat ahead there) in
    late_where old new call taken (inl (omega (arith, issued, before, ap (λ (t : Times). t.issued) for.5)))
