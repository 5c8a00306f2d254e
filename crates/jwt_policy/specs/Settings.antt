-- The values of a policy's members.
use Rattle.std.specs.Prelude.{ℕ, List, Bool, Option}
use Rattle.jwt_mac.specs.declared.algorithm.Alg.{Alg}
use Rattle.jwt_policy.specs.declared.mode.Mode.{Mode}

-- how a run goes: the version of the document, the allowed algorithms, which signatures must verify, the octets of a
-- token, the ceiling for the caller's budget, the signatures of a token, whether one final line feed is dropped
pub record RunSettings : Type 0 where
  pub version : ℕ
  pub algs : List Alg
  pub mode : Mode
  pub limit : ℕ
  pub work : ℕ
  pub max_signatures : ℕ
  pub line_feed : Bool

-- what a header has to be: its media type, whether a `kid` is demanded, whether a key without `kid` answers to its
-- thumbprint, the names that `crit` may hold
pub record HeaderSettings : Type 0 where
  pub typ : Option (List ℕ)
  pub need_kid : Bool
  pub thumb_kid : Bool
  pub understood : List (List ℕ)

-- what the claims have to be: the allowed issuers, the recipient's names, the claims that must be there; the leeway and
-- the greatest age in seconds
pub record ClaimSettings : Type 0 where
  pub issuers : List (List ℕ)
  pub audiences : List (List ℕ)
  pub required : List (List ℕ)
  pub leeway : ℕ
  pub max_age : Option ℕ

-- all of them, and the ceiling on the calls of a run
pub record Settings : Type 0 where
  pub run : RunSettings
  pub header : HeaderSettings
  pub claims : ClaimSettings
  pub max_calls : Option ℕ
