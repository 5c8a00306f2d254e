-- That no octets are a proof and have a fault, and that a proof is new once.
use Rattle.std.specs.Prelude.{◌≡◌, ◌≢◌, ◌≤◌, ◌+◌, ℕ, ℤ, List, Some, None, codes, true}
use Rattle.serde_json.specs.Data.{Members}
use Rattle.jwt_mac.specs.Verifying.{Meaning}
use Rattle.jwt_keys.specs.Keys.{KeyParts}
use Rattle.jwt_policy.specs.Settings.{Settings}
use Rattle.jwt_policy.specs.Checks.{check_of}
use Rattle.jwt_text.specs.Members.{whole_at}
use Rattle.jwt_possession.specs.declared.once.once.Once.{Once}
use Rattle.jwt_possession.specs.once.Accepted.{seconds}
use Rattle.jwt_possession.specs.once.Marks.{mark_of}
use Rattle.jwt_possession.specs.once.Laws.{Call, IsTakenTwice}
use Rattle.jwt_possession.specs.Possessions.{id_of, proof_times}
use Rattle.jwt_possession.specs.Uris.{decoded, normal_path}
use Rattle.jwt_possession.specs.Paths.{is_normal_path}
use Rattle.jwt_possession.specs.Shown.{IsShown, binding_rows}
use Rattle.jwt_possession.specs.declared.binding.Shown.{Shown}
use Rattle.jwt_text.specs.Rows.{first_row}
use Rattle.jwt_verify.specs.Reports.{FoundMemory}
use Rattle.jwt_verify.specs.declared.report.Fault.TheVariants as token_fault
use Rattle.jwt_verify.specs.declared.report.Verdict.TheVariants.{Refused}
use Rattle.jwt_possession.specs.declared.own_key.KeyFault.TheVariants as key_fault
use Rattle.jwt_possession.specs.declared.proof.ProofFault.{ProofFault}
use Rattle.jwt_possession.specs.declared.proof.ProofFault.TheVariants.{NoToken, NoKey, OtherKey, NotAccepted, OtherRequest, OutOfMemory}
use Rattle.jwt_possession.specs.declared.request.Request.{Request}
use Rattle.jwt_possession.specs.Proofs.{IsSignedByOwnKey, IsProof, IsProofFault}

-- the fault says something of the octets: it isn't want of memory
abbrev pub IsOfOctets : ProofFault → Type 0
IsOfOctets (NoToken fault) = fault ≢ token_fault.OutOfMemory
IsOfOctets (NoKey fault) = fault ≢ key_fault.OutOfMemory
IsOfOctets OtherKey = Unit {0}
IsOfOctets (NotAccepted fault) = FoundMemory (Refused fault)
IsOfOctets (OtherRequest fault) = Unit {0}
IsOfOctets OutOfMemory = ⊥

-- whatever is a proof to a request, of whichever key, has no fault there, want of memory aside
abbrev pub ProofsHaveNoFault : Type 0
ProofsHaveNoFault = (policy : Settings) (verifiers : List Meaning) (now : ℤ) (request : Request) (octets : List ℕ) (key : KeyParts) (claims : Members) (fault : ProofFault)
    → IsProof policy verifiers now request octets key claims → IsOfOctets fault → ¬ IsProofFault policy verifiers now request octets fault

-- and octets have one fault at most, want of memory aside
abbrev pub ProofsHaveOneFault : Type 0
ProofsHaveOneFault = (policy : Settings) (verifiers : List Meaning) (now : ℤ) (request : Request) (octets : List ℕ) (fault other : ProofFault)
    → IsOfOctets fault → IsOfOctets other → IsProofFault policy verifiers now request octets fault → IsProofFault policy verifiers now request octets other → fault ≡ other

-- octets are signed by one key of their own at most, and have one set of claims
abbrev pub OneOwnKey : Type 0
OneOwnKey = (policy : Settings) (verifiers : List Meaning) (now : ℤ) (octets : List ℕ) (key other : KeyParts) (claims others : Members)
    → IsSignedByOwnKey policy verifiers now octets key claims → IsSignedByOwnKey policy verifiers now octets other others → (other ≡ key) × (others ≡ claims)

-- the call is what one for a proof with these claims by the key of this thumbprint, accepted under this policy, comes to
abbrev pub IsCallForProof : Settings → (thumbprint : List ℕ) → Members → Call → Type 0
IsCallForProof policy thumbprint claims call = (call.mark ≡ mark_of thumbprint (id_of claims)) × (call.times ≡ proof_times policy claims)

-- a proof is never New twice, under whatever policies it and whatever else that is taken between come
abbrev pub NoProofTwice : Type 0
NoProofTwice = (policy other : Settings) (thumbprint : List ℕ) (claims : Members) (one two : Call) (last : Once) → IsCallForProof policy thumbprint claims one
    → IsCallForProof other thumbprint claims two → IsTakenTwice one two last → ⊥

-- at a moment at which a policy with a greatest age accepts claims, they aren't late by their own times, and may have been accepted from their moment of issue on
abbrev pub ProofsInTime : Type 0
ProofsInTime = (policy : Settings) (claims : Members) (now iat : ℤ) (age : ℕ) → check_of policy claims now ≡ None → policy.claims.max_age ≡ Some age
    → whole_at (codes "iat") claims ≡ Some iat
    → (seconds now ≤ (proof_times policy claims).moment + (proof_times policy claims).grace) × ((proof_times policy claims).issued ≤ seconds now)

-- a normal path is its own normal form: percent-decoding leaves it as it is, and so does taking away dot segments
abbrev pub NormalPaths : Type 0
NormalPaths = (path : List ℕ) → is_normal_path path ≡ true → (decoded path ≡ Some path) × (normal_path path ≡ path)

-- where no row of the table holds, each way in which the claims are bound is shown
abbrev pub AllShown : Type 0
AllShown = (claims : Members) (shown : Shown) → first_row (binding_rows claims shown) ≡ None → IsShown claims shown
