-- The requests that are let through, and why others aren't.
use Rattle.std.specs.Prelude.{◌≡◌, ◌≢◌, ℕ, true, List, Option, Some, None, Result, Ok, Err}
use Rattle.serde_json.specs.Data.{Members}
use Rattle.jwt_mac.specs.Verifying.{Meaning}
use Rattle.jwt_mac.specs.declared.algorithm.Alg.{Alg}
use Rattle.jwt_jws.specs.Views.{token as token_view}
use Rattle.jwt_verify.specs.Asks.{IsToken as IsReadToken}
use Rattle.jwt_request.specs.declared.scheme.Scheme.{Scheme}
use Rattle.jwt_possession.specs.declared.once.once.Taken.{Taken}
use Rattle.jwt_possession.specs.declared.once.once.Taken.TheVariants.{New}
use Rattle.jwt_possession.specs.declared.possession.Possession.{Possession}
use Rattle.jwt_service.specs.declared.shown.Shown.{Shown}
use Rattle.jwt_service.specs.declared.shown.Shown.TheVariants as shown
use Rattle.jwt_service.specs.declared.call.Call.{Call}
use Rattle.jwt_service.specs.declared.service.Issuer.{Issuer}
use Rattle.jwt_service.specs.declared.service.Service.{Service}
use Rattle.jwt_service.specs.declared.admission.Admission.{Admission}
use Rattle.jwt_service.specs.declared.admission.Admission.TheVariants.{Admitted, ProofNotNew, TokenNotNew}
use Rattle.jwt_service.specs.declared.admission.Admission.TheVariants as answer
use Rattle.jwt_service.specs.declared.admission.Passed.{Passed}
use Rattle.jwt_service.specs.declared.admission.Refusal.{Refusal}
use Rattle.jwt_service.specs.declared.admission.Refusal.TheVariants.{Misasked, Several, Absent, Malformed, Refused, Denied, Unexpected, Unproved, Unshown, Lacking, OutOfMemory}
use Rattle.jwt_service.specs.declared.books.Books.{Books}
use Rattle.jwt_service.specs.declared.accepting.AcceptedToken.{AcceptedToken}
use Rattle.jwt_service.specs.declared.accepting.ShownToken.{ShownToken}
use Rattle.jwt_service.specs.Asking.{IsAsked, IsMisasked}
use Rattle.jwt_service.specs.Shown.{schemes_of, values_of, Shows, IsShown}
use Rattle.jwt_service.specs.Issuers.{IsChosen}
use Rattle.jwt_service.specs.Judged.{AcceptsToken, RefusesToken}
use Rattle.jwt_service.specs.Rule.{MeetsRule, IsDenied}
use Rattle.jwt_service.specs.Expecting.{IsAsExpected, IsUnexpected}
use Rattle.jwt_service.specs.Proving.{IsHeld, IsUnproved}
use Rattle.jwt_service.specs.Unshown.{HasUnshown}
use Rattle.jwt_service.specs.Taking.{IsProofEntry, IsTokenEntry, IsEntryTaken}

-- a token: the scheme by which it is shown, its octets, the issuer by whose policy and keys it is judged, its claims, and the algorithm of its signature
pub record Subject : Type 0 where
  pub scheme : Scheme
  pub token : List ℕ
  pub issuer : Issuer
  pub claims : Members
  pub alg : Alg

-- the program asks as it has to, and the headers of the request show this
abbrev pub IsShownTo : Service → Call → Shown → Type 0
IsShownTo service call shown = IsAsked service call × IsShown (schemes_of service) (values_of call) shown

-- the program asks as it has to, and the request shows this token by this scheme (RFC 6750, section 2.1; RFC 9449, section 7.1)
abbrev pub IsToken : Service → Call → Scheme → List ℕ → Type 0
IsToken service call scheme token = IsAsked service call × Shows (schemes_of service) (values_of call) scheme token

-- the request shows the token, and the policy of the issuer by which it is judged accepts it, with these claims (RFC 7519, section 7.2)
pub record IsAccepted (service : Service) (verifiers : List Meaning) (call : Call) (it : Subject) : Type 0 where
  pub shown : IsToken service call it.scheme it.token
  pub chosen : IsChosen service it.token it.issuer
  pub accepted : AcceptsToken it.issuer verifiers call it.token it.claims it.alg

-- and they meet the access rule that the call names (RFC 6750, section 3.1)
pub record IsGranted (service : Service) (verifiers : List Meaning) (call : Call) (it : Subject) : Type 0 where
  pub before : IsAccepted service verifiers call it
  pub rule : MeetsRule service it.issuer call it.claims

-- and are what the call expects
pub record IsExpected (service : Service) (verifiers : List Meaning) (call : Call) (it : Subject) : Type 0 where
  pub before : IsGranted service verifiers call it
  pub expected : IsAsExpected call it.claims it.alg

-- and the scheme's proof of possession, if it asks for one, is there (RFC 9449, sections 4.3 and 7.1)
pub record IsProved (service : Service) (verifiers : List Meaning) (call : Call) (it : Subject) (possession : Option Possession) : Type 0 where
  pub before : IsExpected service verifiers call it
  pub held : IsHeld service verifiers call it.scheme it.token it.claims possession

-- and each way in which the token is bound is shown (RFC 9449, section 7.2; RFC 8705, section 3)
pub record IsBound (service : Service) (verifiers : List Meaning) (call : Call) (it : Subject) (possession : Option Possession) : Type 0 where
  pub before : IsProved service verifiers call it possession
  pub shown : HasUnshown service call it.claims possession None

-- and, where tokens count once, it lacks nothing: all holds but that its proof and its token are new, of which this is to be taken
pub record IsPassed (service : Service) (verifiers : List Meaning) (call : Call) (passed : Passed) : Type 0 where
  pub token : List ℕ
  pub alg : Alg
  pub possession : Option Possession
  pub before : IsBound service verifiers call (record { scheme = passed.scheme; token = token; issuer = passed.issuer; claims = passed.claims; alg = alg }) possession
  pub proof_entry : IsProofEntry possession passed.proof
  pub token_entry : IsTokenEntry service passed.issuer call passed.claims (Ok passed.token)

-- the first cause why not
abbrev pub IsRefusal : Service → List Meaning → Call → Refusal → Type 0
IsRefusal service verifiers call (Misasked fault) = IsMisasked service call fault
IsRefusal service verifiers call Several = IsShownTo service call shown.Several
IsRefusal service verifiers call Absent = IsShownTo service call shown.Absent
IsRefusal service verifiers call (Malformed scheme) = IsShownTo service call (shown.Malformed scheme)
IsRefusal service verifiers call (Refused scheme fault) =
    (token : List ℕ) × (issuer : Issuer) × IsToken service call scheme token × IsChosen service token issuer × RefusesToken issuer verifiers call token fault
IsRefusal service verifiers call (Denied scheme denial) =
    (it : Subject) × (it.scheme ≡ scheme) × IsAccepted service verifiers call it × IsDenied service it.issuer call it.claims denial
IsRefusal service verifiers call (Unexpected scheme unmet) = (it : Subject) × (it.scheme ≡ scheme) × IsGranted service verifiers call it × IsUnexpected call it.claims it.alg unmet
IsRefusal service verifiers call (Unproved fault) =
    (it : Subject) × IsExpected service verifiers call it × IsUnproved service verifiers call it.scheme it.token it.claims fault
IsRefusal service verifiers call (Unshown scheme fault) = (it : Subject) × (possession : Option Possession)
    × (it.scheme ≡ scheme) × IsProved service verifiers call it possession × HasUnshown service call it.claims possession (Some fault)
IsRefusal service verifiers call (Lacking scheme lack) = (it : Subject) × (possession : Option Possession)
    × (it.scheme ≡ scheme) × IsBound service verifiers call it possession × IsTokenEntry service it.issuer call it.claims (Err lack)
IsRefusal service verifiers call OutOfMemory = Unit {0}

abbrev pub IsDecided : Service → List Meaning → Call → Result Passed Refusal → Type 0
IsDecided service verifiers call (Ok passed) = IsPassed service verifiers call passed
IsDecided service verifiers call (Err refusal) = IsRefusal service verifiers call refusal

-- The request is let through, by these claims: all holds, and by the books its proof is new, and so is its token, where it counts once. Both are held from
-- now on.
pub record IsAdmitted (service : Service) (verifiers : List Meaning) (call : Call) (old : Books) (claims : Members) (new : Books) : Type 0 where
  pub passed : Passed
  pub holds : IsPassed service verifiers call passed
  pub its_claims : claims ≡ passed.claims
  pub proof : IsEntryTaken passed.proof call old.proofs New new.proofs
  pub token : IsEntryTaken passed.token call old.tokens New new.tokens

-- all holds, but its proof isn't new, by this answer; its token isn't taken
pub record IsProofOld (service : Service) (verifiers : List Meaning) (call : Call) (old : Books) (taken : Taken) (new : Books) : Type 0 where
  pub passed : Passed
  pub holds : IsPassed service verifiers call passed
  pub proof : IsEntryTaken passed.proof call old.proofs taken new.proofs
  pub is_old : taken ≢ New
  pub untouched : new.tokens ≡ old.tokens

-- all holds, its proof is new and taken, but its token isn't new, by this answer
pub record IsTokenOld (service : Service) (verifiers : List Meaning) (call : Call) (old : Books) (scheme : Scheme) (taken : Taken) (new : Books) : Type 0 where
  pub passed : Passed
  pub holds : IsPassed service verifiers call passed
  pub its_scheme : scheme ≡ passed.scheme
  pub proof : IsEntryTaken passed.proof call old.proofs New new.proofs
  pub token : IsEntryTaken passed.token call old.tokens taken new.tokens
  pub is_old : taken ≢ New

-- The answer. Nothing is taken where it is refused before; no token where its proof isn't new.
abbrev pub IsAdmission : Service → List Meaning → Call → Books → Admission → Books → Type 0
IsAdmission service verifiers call old (Admitted claims) new = IsAdmitted service verifiers call old claims new
IsAdmission service verifiers call old (answer.Refused refusal) new = IsRefusal service verifiers call refusal × (new ≡ old)
IsAdmission service verifiers call old (ProofNotNew (Some taken)) new = IsProofOld service verifiers call old taken new
IsAdmission service verifiers call old (TokenNotNew scheme (Some taken)) new = IsTokenOld service verifiers call old scheme taken new
IsAdmission service verifiers call old _ new = ⊥

-- ---- Cited by contracts of private functions alone

abbrev pub subject_of : AcceptedToken → Subject
subject_of it = record { scheme = it.scheme; token = it.token.now; issuer = it.issuer; claims = it.claims; alg = it.alg }

-- the token that the request shows, and the issuer that it is judged by, which reads it so
abbrev pub IsShownToken : Service → Call → ShownToken → Type 0
IsShownToken service call it = IsToken service call it.scheme it.token.now × IsChosen service it.token.now it.issuer
    × IsReadToken it.issuer.policy.now it.token.now (token_view it.signed) × (it.own ≡ true → it.issuer ≡ service.issuer)

abbrev pub IsShownAs : Service → List Meaning → Call → Result ShownToken Refusal → Type 0
IsShownAs service verifiers call (Ok it) = IsShownToken service call it
IsShownAs service verifiers call (Err refusal) = IsRefusal service verifiers call refusal

abbrev pub IsAcceptedAs : Service → List Meaning → Call → Result AcceptedToken Refusal → Type 0
IsAcceptedAs service verifiers call (Ok it) = IsAccepted service verifiers call (subject_of it)
IsAcceptedAs service verifiers call (Err refusal) = IsRefusal service verifiers call refusal
