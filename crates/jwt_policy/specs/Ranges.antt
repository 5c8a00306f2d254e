-- The ranges of a policy's numbers, and that it allows an algorithm.
use Rattle.std.specs.Prelude.{◌≤◌, length, IfSome}
use Rattle.jwt_text.specs.declared.limits.TheConstants.{LONGEST_TOKEN}
use Rattle.jwt_policy.specs.Settings.{RunSettings, ClaimSettings}

pub record IsRunInRange (run : RunSettings) : Type 0 where
  pub version_least : 1 ≤ run.version
  pub version_most : run.version ≤ 2
  pub algs_least : 1 ≤ length run.algs
  pub limit_least : 1 ≤ run.limit
  pub limit_most : run.limit ≤ LONGEST_TOKEN
  pub work_most : run.work ≤ 1000000000000
  pub signatures_least : 1 ≤ run.max_signatures
  pub signatures_most : run.max_signatures ≤ 32

pub record IsClaimInRange (claims : ClaimSettings) : Type 0 where
  pub leeway_most : claims.leeway ≤ 86400
  pub age_least : IfSome claims.max_age (λ age. 1 ≤ age)
