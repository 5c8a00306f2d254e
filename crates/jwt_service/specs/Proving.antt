-- The proof of possession beside a token (RFC 9449, sections 4.3 and 7).
use Rattle.std.specs.Prelude.{◌≡◌, ◌≢◌, ℕ, true, false, List, [], ◌∷◌, map, codes, Option, Some, None, Result, Ok, Err}
use Rattle.std.specs.Option.{IfSome}
use Rattle.serde_json.specs.Data.{Members}
use Rattle.jwt_text.specs.Members.{text_at}
use Rattle.jwt_mac.specs.Verifying.{Meaning}
use Rattle.jwt_keys.specs.Keys.{KeyParts}
use Rattle.jwt_request.specs.declared.scheme.Scheme.{Scheme}
use Rattle.jwt_request.specs.declared.scheme.Scheme.TheVariants.{Bearer, Dpop}
use Rattle.jwt_possession.specs.Bindings.{bound_key, digest_text}
use Rattle.jwt_possession.specs.Nonces.{making, HasFresh}
use Rattle.jwt_possession.specs.Paths.{has_agreed_path}
use Rattle.jwt_possession.specs.Possessions.{Proved, proved, owner_beside, proof_times}
use Rattle.jwt_possession.specs.Proofs.{IsSignedByOwnKey, IsProofFault}
use Rattle.jwt_possession.specs.Uris.{normal_uri}
use Rattle.jwt_possession.specs.declared.possession.Possession.{Possession}
use Rattle.jwt_possession.specs.declared.proof.ProofFault.{ProofFault}
use Rattle.jwt_possession.specs.declared.request.Request.{Request}
use Rattle.jwt_service.specs.declared.call.Call.{Call}
use Rattle.jwt_service.specs.declared.service.Service.{Service}
use Rattle.jwt_service.specs.declared.service.Proofs.{Proofs}
use Rattle.jwt_service.specs.Paths.{uri_of, begins_with_slash}
use Rattle.jwt_service.specs.declared.proving.ProvingFault.{ProvingFault}
use Rattle.jwt_service.specs.declared.proving.ProvingFault.TheVariants.{NotOne, Path, Proof, Nonce, OutOfMemory}

-- the octets prove to this very request, with this very token, that its sender holds the key that the token is bound to (section 4.3)
pub record Proves (proofs : Proofs) (verifiers : List Meaning) (call : Call) (token : List ℕ) (claims : Members) (proof : List ℕ) (it : Proved) : Type 0 where
  pub key : KeyParts
  -- steps 2 to 7 and 11: the service's policy for proofs accepts them by the key in their own header
  pub signed : IsSignedByOwnKey proofs.policy.now verifiers call.moment proof key it.claims
  -- step 8
  pub method : text_at (codes "htm") it.claims ≡ Some call.method.now
  -- step 9, of a path of which every reader makes the same
  pub path : has_agreed_path (uri_of proofs call) ≡ true
  pub uri : (htu normal : List ℕ) × (text_at (codes "htu") it.claims ≡ Some htu) × (normal_uri htu ≡ Some normal) × (normal_uri (uri_of proofs call) ≡ Some normal)
  -- step 12
  pub access : text_at (codes "ath") it.claims ≡ Some (digest_text token)
  pub bound : bound_key claims ≡ Some key.thumbprint
  -- by which the proof is held, with whose share, and until when
  pub thumbprint : it.thumbprint ≡ key.thumbprint
  pub owner : it.owner ≡ owner_beside (Some claims) it.thumbprint
  pub times : it.times ≡ proof_times proofs.policy.now it.claims

-- this is what was asked: the request's method and URI, no certain nonce, the token and its claims
pub record Asks (proofs : Proofs) (call : Call) (token : List ℕ) (claims : Members) (request : Request) : Type 0 where
  pub method : request.method.now ≡ call.method.now
  pub uri : request.uri.now ≡ uri_of proofs call
  pub nonce : request.nonce ≡ None
  pub access : IfSome request.access (λ access. (access.token.now ≡ token) × (access.claims.now ≡ claims))
  pub there : request.access ≢ None

-- they don't, for this first cause
abbrev pub IsNoProof : Proofs → List Meaning → Call → List ℕ → Members → List ℕ → ProofFault → Type 0
IsNoProof proofs verifiers call token claims proof fault =
    (request : Request) × Asks proofs call token claims request × IsProofFault proofs.policy.now verifiers call.moment request proof fault

-- the proof has the nonce that is asked for, where one is (section 9)
abbrev pub HasNonce : Proofs → Call → Members → Type 0
HasNonce proofs call claims = IfSome proofs.nonces (λ nonces. HasFresh (making nonces) call.moment claims)

-- the values of all headers DPoP
abbrev pub proofs_of : Call → List (List ℕ)
proofs_of call = map (λ value. value.now) call.proofs.now

-- the request has one header DPoP, with this value, and the service says what it asks of it (step 1)
abbrev pub IsBeside : Service → Call → Scheme → Proofs → List ℕ → Type 0
IsBeside service call scheme proofs proof = (scheme ≡ Dpop) × (service.proofs ≡ Some proofs) × (proofs_of call ≡ proof ∷ [])

-- and the path begins with `/`
abbrev pub IsAtPath : Service → Call → Scheme → Proofs → List ℕ → Type 0
IsAtPath service call scheme proofs proof = IsBeside service call scheme proofs proof × (begins_with_slash call.path.now ≡ true)

-- what the scheme asks for is shown: a bearer's token needs no proof, any other has one
abbrev pub IsHeld : Service → List Meaning → Call → Scheme → List ℕ → Members → Option Possession → Type 0
IsHeld service verifiers call scheme token claims None = scheme ≡ Bearer
IsHeld service verifiers call scheme token claims (Some possession) = (proofs : Proofs) × (proof : List ℕ) × IsAtPath service call scheme proofs proof
    × Proves proofs verifiers call token claims proof (proved possession) × HasNonce proofs call (proved possession).claims

-- it isn't, for this first cause
abbrev pub IsUnproved : Service → List Meaning → Call → Scheme → List ℕ → Members → ProvingFault → Type 0
IsUnproved service verifiers call scheme token claims NotOne = (scheme ≡ Dpop) × ((proofs : Proofs) (proof : List ℕ) → ¬ IsBeside service call scheme proofs proof)
IsUnproved service verifiers call scheme token claims Path =
    (proofs : Proofs) × (proof : List ℕ) × IsBeside service call scheme proofs proof × (begins_with_slash call.path.now ≡ false)
IsUnproved service verifiers call scheme token claims (Proof fault) =
    (proofs : Proofs) × (proof : List ℕ) × IsAtPath service call scheme proofs proof × IsNoProof proofs verifiers call token claims proof fault
IsUnproved service verifiers call scheme token claims Nonce = (proofs : Proofs) × (proof : List ℕ) × (it : Proved) × IsAtPath service call scheme proofs proof
    × Proves proofs verifiers call token claims proof it × ¬ HasNonce proofs call it.claims
IsUnproved service verifiers call scheme token claims OutOfMemory = Unit {0}

-- ---- Cited by contracts of private functions alone

abbrev pub IsHeldAs : Service → List Meaning → Call → Scheme → List ℕ → Members → Result (Option Possession) ProvingFault → Type 0
IsHeldAs service verifiers call scheme token claims (Ok held) = IsHeld service verifiers call scheme token claims held
IsHeldAs service verifiers call scheme token claims (Err fault) = IsUnproved service verifiers call scheme token claims fault
