-- What a call expects of claims.
use Rattle.std.specs.Prelude.{Option, Some, None}
use Rattle.serde_json.specs.Data.{Members}
use Rattle.jwt_mac.specs.declared.algorithm.Alg.{Alg}
use Rattle.jwt_access.specs.declared.expected.expected.Unmet.{Unmet}
use Rattle.jwt_access.specs.expected.Expected.{AreMet}
use Rattle.jwt_access.specs.expected.Unmet.{IsFirstUnmet}
use Rattle.jwt_service.specs.declared.call.Call.{Call}

-- the claims are as the call expects; a hash is made by the algorithm of the signature that verified
abbrev pub IsAsExpected : Call → Members → Alg → Type 0
IsAsExpected call claims alg = AreMet alg claims call.expected.now

-- they aren't, and this is the first that isn't met
abbrev pub IsUnexpected : Call → Members → Alg → Unmet → Type 0
IsUnexpected call claims alg unmet = IsFirstUnmet alg claims call.expected.now unmet

-- ---- Cited by contracts of private functions alone

abbrev pub HasUnmet : Call → Members → Alg → Option Unmet → Type 0
HasUnmet call claims alg None = IsAsExpected call claims alg
HasUnmet call claims alg (Some unmet) = IsUnexpected call claims alg unmet
