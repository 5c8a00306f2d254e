-- What is answered to a request, and when.
use Rattle.std.specs.Prelude.{◌≡◌, ◌⊎◌, ◌<◌, ◌↔◌, ◌||◌, ℕ, List, Bool, true, false, Option, Some, None}
use Rattle.jwt_request.specs.declared.scheme.Scheme.{Scheme}
use Rattle.jwt_request.specs.declared.scheme.Scheme.TheVariants.{Bearer, Dpop}
use Rattle.jwt_request.specs.declared.scheme.Schemes.{Schemes}
use Rattle.jwt_request.specs.declared.credentials.Credentials.{Credentials}
use Rattle.jwt_request.specs.declared.credentials.Credentials.TheVariants.{Absent as NoScheme}
use Rattle.jwt_request.specs.declared.replies.Reply.{Reply}
use Rattle.jwt_request.specs.declared.challenge.Challenge.{Challenge}
use Rattle.jwt_request.specs.declared.challenge.Challenge.TheVariants.{Realm, InvalidRequest, InvalidToken, InsufficientScope, Scopes, InvalidProof, UseNonce}
use Rattle.jwt_request.specs.declared.replies.Outcome.{Outcome}
use Rattle.jwt_request.specs.declared.replies.Outcome.TheVariants.{Several, Absent, Malformed, Accepted, Refused, ScopeMissing, Denied, ProofRefused, NonceWanted, PathForm, ShareUsedUp, MemoryFull, KeysTooOld, Unanswered}
use Rattle.jwt_request.specs.Spelled.{IsFound}

-- of several headers nothing is read
abbrev pub IsAsked : Schemes → ℕ → List ℕ → Option Credentials → Type 0
IsAsked schemes count value None = 1 < count
IsAsked schemes count value (Some found) = ((count ≡ 0) × (found ≡ NoScheme)) ⊎ ((count ≡ 1) × IsFound schemes value found)

-- a token was shown by a scheme that is taken, and it, or the proof beside it, is refused: another one may be let through
abbrev pub IsRefusal : Outcome → Type 0
IsRefusal outcome = (outcome ≡ Malformed) ⊎ (outcome ≡ Refused) ⊎ (outcome ≡ ProofRefused) ⊎ (outcome ≡ NonceWanted)

-- whether a service takes any scheme
abbrev pub takes_any : Schemes → Bool
takes_any schemes = schemes.bearer || schemes.dpop

-- the status, in the standards' terms, by whether the service takes any scheme (RFC 6750, section 3.1; RFC 9449, section 7.1; RFC 9110, section 15)
pub record IsStatus (taken : Bool) (outcome : Outcome) (status : ℕ) : Type 0 where
  -- a request is let through where its token is accepted, and else never
  pub through : (status ≡ 200) ↔ (outcome ≡ Accepted)
  -- who may get on by another token or proof is told so: none was shown, or it is refused
  pub unauthorized : (status ≡ 401) ↔ ((taken ≡ true) × ((outcome ≡ Absent) ⊎ IsRefusal outcome))
  -- the token is accepted, and grants too little
  pub forbidden : (status ≡ 403) ↔ ((outcome ≡ ScopeMissing) ⊎ (outcome ≡ Denied))
  -- the request itself is at fault
  pub bad : (status ≡ 400) ↔ ((outcome ≡ Several) ⊎ (outcome ≡ PathForm))
  -- this owner has to wait, and nobody else (RFC 6585, section 4)
  pub too_many : (status ≡ 429) ↔ (outcome ≡ ShareUsedUp)
  -- nothing is said of the token, or everybody has to wait
  pub unavailable : (status ≡ 503) ↔ ((outcome ≡ KeysTooOld) ⊎ (outcome ≡ MemoryFull))
  -- so it is where no scheme is taken: no other token or proof may get on, and there is no challenge for it
  pub failed : (status ≡ 500) ↔ ((outcome ≡ Unanswered) ⊎ ((taken ≡ false) × ((outcome ≡ Absent) ⊎ IsRefusal outcome)))

-- the challenge of a scheme, by whether the service takes it, and whether the request showed it
pub record IsChallenge (taken shown : Bool) (outcome : Outcome) (challenge : Challenge) : Type 0 where
  -- no error is named where no token was shown by this scheme, and a token of it may help
  pub realm : (challenge ≡ Realm) ↔ ((taken ≡ true) × ((outcome ≡ Absent) ⊎ ((shown ≡ false) × IsRefusal outcome)))
  -- of several headers nothing was read, so the error is that of each scheme
  pub request : (challenge ≡ InvalidRequest) ↔ ((taken ≡ true) × (outcome ≡ Several))
  -- an error of a token or a proof is told to the scheme by which it came alone
  pub token : (challenge ≡ InvalidToken) ↔ ((taken ≡ true) × (shown ≡ true) × ((outcome ≡ Malformed) ⊎ (outcome ≡ Refused)))
  pub scopes : (challenge ≡ Scopes) ↔ ((taken ≡ true) × (shown ≡ true) × (outcome ≡ ScopeMissing))
  pub scope : (challenge ≡ InsufficientScope) ↔ ((taken ≡ true) × (shown ≡ true) × (outcome ≡ Denied))
  -- RFC 9449, sections 7.1 and 9
  pub proof : (challenge ≡ InvalidProof) ↔ ((taken ≡ true) × (shown ≡ true) × (outcome ≡ ProofRefused))
  pub nonce : (challenge ≡ UseNonce) ↔ ((taken ≡ true) × (shown ≡ true) × (outcome ≡ NonceWanted))

-- whether the request showed this scheme
abbrev pub is_shown : Option Scheme → Scheme → Bool
is_shown (Some Bearer) Bearer = true
is_shown (Some Dpop) Dpop = true
is_shown _ _ = false

-- the status, and each scheme's challenge (RFC 9449, section 7.2)
pub record IsReply (schemes : Schemes) (shown : Option Scheme) (outcome : Outcome) (reply : Reply) : Type 0 where
  pub status : IsStatus (takes_any schemes) outcome reply.status
  pub bearer : IsChallenge schemes.bearer (is_shown shown Bearer) outcome reply.bearer
  pub dpop : IsChallenge schemes.dpop (is_shown shown Dpop) outcome reply.dpop
