-- How what is answered to a request crosses to C: as numbers.
use Rattle.std.specs.Prelude.{◌≡◌, ◌≢◌, ◌⊎◌, ◌↔◌, ◌||◌, Bool, ℕ, ◌==◌, if◌then◌else◌, List, [], Option, Some, None}
use Rattle.jwt_request.specs.declared.scheme.Scheme.{Scheme}
use Rattle.jwt_request.specs.declared.scheme.Scheme.TheVariants.{Bearer, Dpop}
use Rattle.jwt_request.specs.declared.scheme.Schemes.{Schemes}
use Rattle.jwt_request.specs.declared.credentials.Credentials.TheVariants as found
use Rattle.jwt_request.specs.declared.replies.Reply.{Reply}
use Rattle.jwt_request.specs.declared.replies.Outcome.{Outcome}
use Rattle.jwt_request.specs.declared.replies.Outcome.TheVariants.{Several, Absent, Malformed, Accepted, Refused, ScopeMissing, Denied, ProofRefused, NonceWanted, PathForm, ShareUsedUp, MemoryFull, KeysTooOld, Unanswered}
use Rattle.jwt_request.specs.declared.challenge.Challenge.{Challenge}
use Rattle.jwt_request.specs.declared.challenge.Challenge.TheVariants.{Silent, Realm, InvalidRequest, InvalidToken, InsufficientScope, Scopes, InvalidProof, UseNonce}
use Rattle.jwt_request.specs.Spelled.{IsFound}
use Rattle.jwt_request.specs.Challenges.{challenge_text}
use Rattle.jwt_possession.specs.declared.request.RequestFault.TheVariants as request
use Rattle.jwt_handles.specs.declared.requests.FowReply.{FowReply}
use Rattle.jwt_handles.specs.declared.status.TheConstants.{FOW_OK, FOW_REFUSED, FOW_NOT_EXPECTED}
use Rattle.jwt_possession.specs.declared.proof.ProofFault.TheVariants as proof
use Rattle.jwt_handles.specs.Possessing.{proof_numbers, request_number}

-- a scheme, by number; any other number is none
abbrev pub scheme_of : ℕ → Option Scheme
scheme_of number = if number == 1 then Some Bearer else (if number == 2 then Some Dpop else None)

-- the schemes that a service takes, by the sum of their numbers; any other number takes none
abbrev pub schemes_of : ℕ → Schemes
schemes_of sum = record { bearer = sum == 1 || sum == 3; dpop = sum == 2 || sum == 3 }

-- the token of the scheme of this number is found
abbrev pub IsTokenBy : Schemes → List ℕ → ℕ → ℕ → ℕ → Type 0
IsTokenBy schemes value number from to = (scheme : Scheme) × (scheme_of number ≡ Some scheme) × IsFound schemes value (found.Token scheme from to)

-- the scheme of this number is found, without a token
abbrev pub IsMalformedBy : Schemes → List ℕ → ℕ → Type 0
IsMalformedBy schemes value number = (scheme : Scheme) × (scheme_of number ≡ Some scheme) × IsFound schemes value (found.Malformed scheme)

-- no scheme is found that is taken
abbrev pub IsAbsentBy : Schemes → List ℕ → ℕ → Type 0
IsAbsentBy schemes value number = (number ≡ 0) × IsFound schemes value found.Absent

-- what is known of a token, by number; of any other number nothing is
abbrev pub outcome_of : ℕ → Outcome
outcome_of number =
    if number == 1 then Accepted
    else (if number == 2 then Several
    else (if number == 3 then Absent
    else (if number == 4 then Malformed
    else (if number == 5 then Refused
    else (if number == 6 then ScopeMissing
    else (if number == 7 then Denied
    else (if number == 8 then KeysTooOld
    else (if number == 9 then ProofRefused
    else (if number == 10 then NonceWanted
    else (if number == 11 then PathForm
    else (if number == 12 then ShareUsedUp
    else (if number == 13 then MemoryFull else Unanswered))))))))))))

-- a challenge, by number
abbrev pub challenge_of : ℕ → Challenge
challenge_of number =
    if number == 1 then Realm
    else (if number == 2 then InvalidRequest
    else (if number == 3 then InvalidToken
    else (if number == 4 then InsufficientScope
    else (if number == 5 then Scopes
    else (if number == 6 then InvalidProof
    else (if number == 7 then UseNonce else Silent))))))

abbrev pub reply_of : FowReply → Reply
reply_of it = record { status = it.status; bearer = challenge_of it.bearer; dpop = challenge_of it.dpop }

-- the text of a challenge of a scheme; of none it is empty
abbrev pub text_by : Option Scheme → Challenge → List ℕ → List ℕ → List ℕ → List ℕ
text_by None challenge realm scope algs = []
text_by (Some scheme) challenge realm scope algs = challenge_text scheme challenge realm scope algs

-- the fault of a proof by another key than that of its access token
abbrev pub other_key : ℕ
other_key = (proof_numbers proof.OtherKey).fault

-- what an answer on a proof makes of its request (RFC 9449, sections 7.1 and 9)
pub record IsOutcomeOfProof (status fault : ℕ) (outcome : Outcome) : Type 0 where
  pub admitted : (outcome ≡ Accepted) ↔ (status ≡ FOW_OK)
  -- the nonce is another than the one that is asked for, or there is none
  pub nonce : (outcome ≡ NonceWanted) ↔ ((status ≡ FOW_NOT_EXPECTED) ⊎ ((status ≡ FOW_REFUSED) × (fault ≡ request_number request.OtherNonce)))
  -- the token is bound to another key than the proof's, or to none
  pub token : (outcome ≡ Refused) ↔ ((status ≡ FOW_REFUSED) × (fault ≡ other_key))
  -- the path of the request is none of which every reader makes the same
  pub path : (outcome ≡ PathForm) ↔ ((status ≡ FOW_REFUSED) × (fault ≡ request_number request.PathForm))
  -- the proof has any other fault
  pub proof : (outcome ≡ ProofRefused) ↔ ((status ≡ FOW_REFUSED) × (fault ≢ request_number request.OtherNonce) × (fault ≢ other_key)
      × (fault ≢ request_number request.PathForm))
  pub unanswered : (outcome ≡ Unanswered) ↔ ((status ≢ FOW_OK) × (status ≢ FOW_NOT_EXPECTED) × (status ≢ FOW_REFUSED))

-- what is said of a token that isn't new, and of a proof
abbrev pub not_new : (of_proof : Bool) → Outcome
not_new of_proof = if of_proof then ProofRefused else Refused

-- what an answer on a token, or a proof, that counts once makes of its request: whose share is used up waits alone, and everybody where the memory is full
pub record IsOutcomeOfTaken (of_proof : Bool) (status taken : ℕ) (outcome : Outcome) : Type 0 where
  pub admitted : (outcome ≡ Accepted) ↔ (status ≡ FOW_OK)
  pub own_full : (outcome ≡ ShareUsedUp) ↔ ((status ≡ FOW_REFUSED) × (taken ≡ 8))
  pub full : (outcome ≡ MemoryFull) ↔ ((status ≡ FOW_REFUSED) × (taken ≡ 4))
  pub refused : (outcome ≡ not_new of_proof) ↔ ((status ≡ FOW_REFUSED) × (taken ≢ 4) × (taken ≢ 8))
  pub unanswered : (outcome ≡ Unanswered) ↔ ((status ≢ FOW_OK) × (status ≢ FOW_REFUSED))
