-- The moment at which a rule is held against dates.
use Rattle.std.specs.Prelude.{ℤ}
use Rattle.jwt_policy.specs.Settings.{Settings}
use Rattle.jwt_access.specs.declared.moment.Moment.{Moment}

-- this moment, with the policy's leeway
abbrev pub moment_under : Settings → ℤ → Moment
moment_under policy now = record { now = now; leeway = policy.claims.leeway }
