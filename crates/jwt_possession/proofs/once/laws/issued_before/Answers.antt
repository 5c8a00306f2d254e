use Rattle.std.specs.Prelude.{codes}
use Rattle.jwt_text.specs.Members.{whole_at}
use Rattle.jwt_possession.proofs.Moments.{issued_before}
use Rattle.jwt_possession.proofs.once.laws.issued_before.Goals as goal

pub returns : goal.returns
returns c policy claims accepted h = issued_before (whole_at (codes "iat") claims) accepted policy.claims.leeway h
