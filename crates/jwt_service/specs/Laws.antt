-- That no request has two answers, and that nothing is handed out of a token that wasn't taken.
use Rattle.std.specs.Prelude.{◌≡◌, ◌≢◌, ◌↔◌, ◌⊎◌, ℕ, List, [], codes, Option, Some, None}
use Rattle.std.specs.List.{Contains}
use Rattle.serde_json.specs.Data.{Members}
use Rattle.jwt_mac.specs.Verifying.{Meaning}
use Rattle.jwt_mac.specs.declared.algorithm.Alg.{Alg}
use Rattle.jwt_text.specs.Members.{text_at}
use Rattle.jwt_possession.specs.declared.once.accepted.Entry.{Entry}
use Rattle.jwt_possession.specs.declared.once.once.Taken.{Taken}
use Rattle.jwt_possession.specs.declared.once.once.Taken.TheVariants as answered
use Rattle.jwt_verify.specs.Reports.{FoundMemory}
use Rattle.jwt_verify.specs.declared.report.Verdict.TheVariants as verdict
use Rattle.jwt_possession.specs.Laws.{IsOfOctets}
use Rattle.jwt_service.specs.declared.admission.Admission.{Admission}
use Rattle.jwt_service.specs.declared.admission.Admission.TheVariants.{Admitted, ProofNotNew, TokenNotNew}
use Rattle.jwt_service.specs.declared.admission.Admission.TheVariants as answer
use Rattle.jwt_service.specs.declared.admission.Passed.{Passed}
use Rattle.jwt_service.specs.declared.admission.Refusal.{Refusal}
use Rattle.jwt_service.specs.declared.admission.Refusal.TheVariants.{Refused, Unproved, OutOfMemory}
use Rattle.jwt_service.specs.declared.books.Books.{Books}
use Rattle.jwt_service.specs.declared.call.Call.{Call}
use Rattle.jwt_service.specs.declared.proving.ProvingFault.{ProvingFault}
use Rattle.jwt_service.specs.declared.proving.ProvingFault.TheVariants.{Proof}
use Rattle.jwt_service.specs.declared.proving.ProvingFault.TheVariants as proving
use Rattle.jwt_service.specs.declared.service.Issuer.{Issuer}
use Rattle.jwt_service.specs.declared.service.Service.{Service}
use Rattle.jwt_service.specs.Judged.{AcceptsToken}
use Rattle.jwt_service.specs.Admission.{IsPassed, IsRefusal, IsAdmitted, IsAdmission}
use Rattle.jwt_service.specs.Settled.{settled}

-- the fault says something of the proof: it isn't want of memory
abbrev pub IsOfProof : ProvingFault → Type 0
IsOfProof (Proof fault) = IsOfOctets fault
IsOfProof proving.OutOfMemory = ⊥
IsOfProof _ = Unit {0}

-- the refusal says something of the request
abbrev pub IsOfRequest : Refusal → Type 0
IsOfRequest (Refused scheme fault) = FoundMemory (verdict.Refused fault)
IsOfRequest (Unproved fault) = IsOfProof fault
IsOfRequest OutOfMemory = ⊥
IsOfRequest _ = Unit {0}

-- memory was there for the answer
abbrev pub HadMemory : Admission → Type 0
HadMemory (answer.Refused refusal) = IsOfRequest refusal
HadMemory (ProofNotNew taken) = taken ≢ Some answered.OutOfMemory
HadMemory (TokenNotNew scheme taken) = taken ≢ Some answered.OutOfMemory
HadMemory _ = Unit {0}

-- a request of which all holds has no refusal, want of memory aside
abbrev pub PassedIsNotRefused : Type 0
PassedIsNotRefused = (service : Service) (verifiers : List Meaning) (call : Call) (passed : Passed) (refusal : Refusal)
    → IsPassed service verifiers call passed → IsOfRequest refusal → ¬ IsRefusal service verifiers call refusal

-- Where memory was there, the answer is that a request is let through by these claims exactly where it may be.
abbrev pub AdmitsExactly : Type 0
AdmitsExactly = (service : Service) (verifiers : List Meaning) (call : Call) (old new : Books) (answer : Admission) (claims : Members)
    → IsAdmission service verifiers call old answer new → HadMemory answer → (answer ≡ Admitted claims) ↔ ((after : Books) × IsAdmitted service verifiers call old claims after)

-- these claims are of a token that one of the service's issuers accepts, by its policy and its keys, and they name an issuer that this policy allows, where it names any
pub record IsOfOneIssuer (service : Service) (verifiers : List Meaning) (call : Call) (claims : Members) : Type 0 where
  pub issuer : Issuer
  pub among : (issuer ≡ service.issuer) ⊎ Contains service.others.now issuer
  pub token : List ℕ
  pub alg : Alg
  pub accepted : AcceptsToken issuer verifiers call token claims alg
  pub named : (issuer.policy.now.claims.issuers ≡ []) ⊎ ((name : List ℕ) × (text_at (codes "iss") claims ≡ Some name) × Contains issuer.policy.now.claims.issuers name)

-- whatever is let through is of one issuer
abbrev pub AdmitsOfOneIssuer : Type 0
AdmitsOfOneIssuer = (service : Service) (verifiers : List Meaning) (call : Call) (old new : Books) (claims : Members)
    → IsAdmitted service verifiers call old claims new → IsOfOneIssuer service verifiers call claims

-- nothing was to be taken, or it was new
abbrev pub WasNew : Option Entry → Option Taken → Type 0
WasNew entry answer = (entry ≡ None) ⊎ (answer ≡ Some answered.New)

-- Claims are handed out by these answers alone: what was to be taken was new, the proof and the token.
abbrev pub HandsOutTheTaken : Type 0
HandsOutTheTaken = (passed : Passed) (proof token : Option Taken) (claims : Members) → settled passed proof token ≡ Admitted claims
    → (claims ≡ passed.claims) × WasNew passed.proof proof × WasNew passed.token token
