-- The verdict on the token that a request shows.
use Rattle.std.specs.Prelude.{◌≡◌, ℕ, List, Option, Some, Result, Ok, Err, slice_get, option_and_then}
use Rattle.serde_json.specs.Data.{Members}
use Rattle.jwt_mac.specs.Verifying.{Meaning}
use Rattle.jwt_mac.specs.declared.algorithm.Alg.{Alg}
use Rattle.jwt_jws.specs.Token.{Token}
use Rattle.jwt_policy.specs.Bars.{alg as named_alg}
use Rattle.jwt_policy.specs.ClaimKinds.{claims_of}
use Rattle.jwt_policy.specs.Settings.{Settings}
use Rattle.jwt_verify.specs.Accepted.{IsAccepted, IsFault}
use Rattle.jwt_verify.specs.Asks.{IsToken}
use Rattle.jwt_verify.specs.Reports.{FoundMemory, terms}
use Rattle.jwt_verify.specs.declared.report.Fault.{Fault}
use Rattle.jwt_verify.specs.declared.report.Verdict.{Verdict}
use Rattle.jwt_verify.specs.declared.report.Verdict.TheVariants.{Accepted, Refused}
use Rattle.jwt_service.specs.declared.call.Call.{Call}
use Rattle.jwt_service.specs.declared.judging.Verified.{Verified}
use Rattle.jwt_service.specs.declared.service.Issuer.{Issuer}

-- the algorithm that the header of this signature of a token names
abbrev pub alg_at : Token → ℕ → Option Alg
alg_at token signature = option_and_then named_alg (slice_get token.signatures signature)

-- the octets are a token whose signature of this number names this algorithm
abbrev pub IsByAlg : Settings → List ℕ → ℕ → Alg → Type 0
IsByAlg policy octets signature alg = (token : Token) × IsToken policy octets token × (alg_at token signature ≡ Some alg)

-- the issuer's policy accepts the token by its keys at this moment, by a signature of this algorithm, and these are its claims
abbrev pub AcceptsToken : Issuer → List Meaning → Call → List ℕ → Members → Alg → Type 0
AcceptsToken issuer verifiers call token claims alg = (signature : ℕ) × (key : ℕ)
    × IsAccepted (terms issuer.policy.now issuer.keys.now call.moment verifiers) token issuer.policy.now.run.work signature key claims
    × IsByAlg issuer.policy.now token signature alg

-- it refuses it, for this fault, unless memory was refused
abbrev pub RefusesToken : Issuer → List Meaning → Call → List ℕ → Fault → Type 0
RefusesToken issuer verifiers call token fault =
    FoundMemory (Refused fault) → IsFault (terms issuer.policy.now issuer.keys.now call.moment verifiers) token issuer.policy.now.run.work fault

-- ---- Cited by contracts of private functions alone

abbrev pub IsJudgedAs : Issuer → List Meaning → Call → List ℕ → Result Verified Fault → Type 0
IsJudgedAs issuer verifiers call token (Ok it) = AcceptsToken issuer verifiers call token it.claims it.alg
IsJudgedAs issuer verifiers call token (Err fault) = RefusesToken issuer verifiers call token fault

-- what is accepted of a token tells its algorithm and its claims
abbrev pub TellsOf : Verdict → Token → Type 0
TellsOf verdict token = (signature key : ℕ) (claims : Members) → verdict ≡ Accepted signature key claims
    → ((alg : Alg) × (alg_at token signature ≡ Some alg)) × (claims_of token.payload ≡ Ok claims)

-- the token is accepted, by a signature of this algorithm, and these are the claims of its payload
abbrev pub IsVerifiedIn : Verdict → Token → Verified → Type 0
IsVerifiedIn verdict token it = (signature : ℕ) × (key : ℕ) × (claims : Members) × (verdict ≡ Accepted signature key claims)
    × (alg_at token signature ≡ Some it.alg) × (claims_of token.payload ≡ Ok it.claims)
