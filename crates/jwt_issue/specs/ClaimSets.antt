-- The claims to be signed (RFC 7519, section 4).
use Rattle.std.specs.Prelude.{ℕ, List, Result, Ok, Err, ⊤}
use Rattle.jwt_text.specs.Answers.{◌>>=◌}
use Rattle.jwt_text.specs.declared.fault.TextFault.{TextFault}
use Rattle.jwt_text.specs.declared.fault.TextFault.TheVariants.{OutOfMemory as NoMemory}
use Rattle.jwt_policy.specs.ClaimKinds.{claims_of}
use Rattle.jwt_policy.specs.declared.claim_fault.ClaimFault.{ClaimFault}
use Rattle.jwt_issue.specs.declared.fault.BuildFault.{BuildFault}
use Rattle.jwt_issue.specs.declared.fault.BuildFault.TheVariants.{OutOfMemory, NameTwice}

-- what adding a claim answers, of what adding a member does
abbrev pub added_as : Result ⊤ TextFault → Result ⊤ BuildFault
added_as (Ok x) = Ok tt
added_as (Err NoMemory) = Err OutOfMemory
added_as (Err _) = Err NameTwice

-- the octets, as they stand, where they are claims; else the first cause why they are none
abbrev pub claim_set_of : List ℕ → Result (List ℕ) ClaimFault
claim_set_of octets = claims_of octets >>= λ ms. Ok octets
