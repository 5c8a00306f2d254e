-- A proof of possession (RFC 9449, section 4.3), and why a token is none.
use Rattle.std.specs.Prelude.{◌≡◌, ◌≢◌, ◌⊎◌, true, false, ℕ, ℤ, List, ◌++◌, Some, Ok, Err, slice_get, length}
use Rattle.serde_json.specs.Data.{Members}
use Rattle.jwt_text.specs.ObjectText.{IsObjectText}
use Rattle.jwt_text.specs.Rows.{first_row, IsFirstRow, NoRow}
use Rattle.jwt_mac.specs.Verifying.{Meaning, first_naming}
use Rattle.jwt_jws.specs.declared.fault.Form.TheVariants.{Compact}
use Rattle.jwt_jws.specs.Token.{Token, SignatureParts, message_of}
use Rattle.jwt_keys.specs.Keys.{KeyParts}
use Rattle.jwt_policy.specs.declared.sig_fault.SigFault.TheVariants as sig_fault
use Rattle.jwt_policy.specs.declared.claim_fault.ClaimFault.TheVariants.{ClaimsShape}
use Rattle.jwt_policy.specs.Settings.{Settings}
use Rattle.jwt_policy.specs.Bars.{bar_rows}
use Rattle.jwt_policy.specs.ClaimKinds.{kind_rows}
use Rattle.jwt_policy.specs.Checks.{check_rows}
use Rattle.jwt_policy.specs.Laws.{IsEligible, ClaimsHold}
use Rattle.jwt_verify.specs.Asks.{IsToken}
use Rattle.jwt_verify.specs.Accepted.{HasClaims, IsTokenFault}
use Rattle.jwt_verify.specs.declared.report.Fault.{Fault}
use Rattle.jwt_verify.specs.declared.report.Fault.TheVariants as token_fault
use Rattle.jwt_possession.specs.declared.own_key.KeyFault.{KeyFault}
use Rattle.jwt_possession.specs.declared.own_key.KeyFault.TheVariants as key_fault
use Rattle.jwt_possession.specs.declared.own_key.KeyFault.TheVariants.{NotCompact}
use Rattle.jwt_possession.specs.declared.proof.ProofFault.{ProofFault}
use Rattle.jwt_possession.specs.declared.proof.ProofFault.TheVariants.{NoToken, NoKey, OtherKey, NotAccepted, OtherRequest, OutOfMemory}
use Rattle.jwt_possession.specs.declared.request.Request.{Request}
use Rattle.jwt_possession.specs.HeaderKey.{header_key_of}
use Rattle.jwt_possession.specs.Requests.{IsForRequest, is_key, request_rows}

-- the token has one signature, in compact form, and this is the public key in its header (steps 2, 6 and 7)
pub record HasOwnKey (token : Token) (key : KeyParts) : Type 0 where
  pub compact : token.form ≡ Compact
  pub alone : length token.signatures ≡ 1
  pub signature : SignatureParts
  pub first : slice_get token.signatures 0 ≡ Some signature
  pub own_key : header_key_of signature ≡ Ok key

-- The key verifies the signature, under a policy. No public key suits an algorithm by a shared secret, so a verifier is asked.
pub record IsVerifiedByKey (policy : Settings) (verifiers : List Meaning) (token : Token) (signature : SignatureParts) (key : KeyParts) : Type 0 where
  -- steps 4 and 5: no row of the table of bars holds of the header, and the key is one for the algorithm that it names
  pub eligible : IsEligible policy signature key verifiers
  -- the policy's ceiling on calls, where it has one, isn't 0
  pub allowed : policy.max_calls ≢ Some 0
  -- step 6: the first verifier that names the algorithm accepts the signature by the key (RFC 7515, section 5.2, step 8)
  pub verifier : Meaning
  pub asked : first_naming verifiers eligible.algorithm ≡ Some verifier
  pub accepted : verifier.accepts eligible.algorithm key.octets (message_of token signature) signature.octets ≡ true

-- The octets are a token that the policy accepts at this moment by the key in its own header, and by no other.
pub record IsSignedByOwnKey (policy : Settings) (verifiers : List Meaning) (now : ℤ) (octets : List ℕ) (key : KeyParts) (claims : Members) : Type 0 where
  pub token : Token
  -- step 2
  pub read : IsToken policy octets token
  -- steps 2, 6 and 7
  pub has_own_key : HasOwnKey token key
  -- steps 4 to 6
  pub verified : IsVerifiedByKey policy verifiers token has_own_key.signature key
  -- steps 2, 3 and 11, where the policy is one for proofs
  pub has_claims : HasClaims token.payload claims
  pub hold : ClaimsHold policy claims now

-- The octets prove to this request, at this moment, that its sender holds this key.
pub record IsProof (policy : Settings) (verifiers : List Meaning) (now : ℤ) (request : Request) (octets : List ℕ) (key : KeyParts) (claims : Members) : Type 0 where
  -- steps 2 to 7 and 11
  pub signed : IsSignedByOwnKey policy verifiers now octets key claims
  -- steps 8, 9, 10 and 12
  pub for_request : IsForRequest claims request key.thumbprint

-- ---- why a token is no proof, each cause where none before it holds

-- it isn't one signature in compact form; or the header has no public key that is readable
abbrev pub IsKeyFault : Token → KeyFault → Type 0
IsKeyFault token NotCompact = (token.form ≡ Compact) → (length token.signatures ≡ 1) → ⊥
IsKeyFault token fault = (token.form ≡ Compact) × (length token.signatures ≡ 1) × ((signature : SignatureParts) × (slice_get token.signatures 0 ≡ Some signature) × (header_key_of signature ≡ Err fault))

-- Why the policy doesn't accept the token, whose only signature this is, by its own key. The policy's work is no cause, since a question to
-- a verifier costs no octets.
abbrev pub IsRefusal : Settings → List Meaning → ℤ → Token → SignatureParts → KeyParts → Fault → Type 0
-- steps 4 to 6: the first bar; or there is none, and the key isn't eligible; or it is, and its verifier doesn't accept the signature
IsRefusal policy verifiers now token signature key (token_fault.Signature number fault) = (number ≡ 0) × (IsFirstRow (bar_rows policy signature verifiers) fault
    ⊎ (((fault ≡ sig_fault.NoKey) × NoRow (bar_rows policy signature verifiers) × ¬ IsEligible policy signature key verifiers)
    ⊎ ((fault ≡ sig_fault.BadSignature) × IsEligible policy signature key verifiers × (policy.max_calls ≢ Some 0) × ¬ IsVerifiedByKey policy verifiers token signature key)))
-- the key is eligible, and the policy allows no call
IsRefusal policy verifiers now token signature key (token_fault.CallsExceeded number key_number) =
    (number ≡ 0) × (key_number ≡ 0) × IsEligible policy signature key verifiers × (policy.max_calls ≡ Some 0)
-- steps 2, 3 and 11: the payload is no object; or a registered claim has another kind, or the first of the policy's checks holds
IsRefusal policy verifiers now token signature key (token_fault.Claim fault) = IsVerifiedByKey policy verifiers token signature key
    × (((fault ≡ ClaimsShape) × ((claims : Members) → ¬ IsObjectText token.payload claims))
    ⊎ ((claims : Members) × IsObjectText token.payload claims × IsFirstRow (kind_rows claims ++ check_rows policy claims now) fault))
-- an allocation was refused, to the run or to the verifier
IsRefusal policy verifiers now token signature key token_fault.OutOfMemory = Unit {0}
IsRefusal policy verifiers now token signature key token_fault.VerifierMemory = Unit {0}
IsRefusal policy verifiers now token signature key _ = ⊥

abbrev pub IsProofFault : Settings → List Meaning → ℤ → Request → List ℕ → ProofFault → Type 0
-- step 2: it is no signed token
IsProofFault policy verifiers now request octets (NoToken fault) = fault ≢ token_fault.OutOfMemory → IsTokenFault policy octets fault
-- steps 2 and 7: it is one, and has no key of its own that may prove anything
IsProofFault policy verifiers now request octets (NoKey fault) = fault ≢ key_fault.OutOfMemory → (token : Token) × IsToken policy octets token × IsKeyFault token fault
-- step 12, its second part: the access token is bound to another key, or to none
IsProofFault policy verifiers now request octets OtherKey = (token : Token) × (key : KeyParts) × IsToken policy octets token × HasOwnKey token key
    × (is_key request key.thumbprint ≡ false)
-- steps 3 to 6 and 11: it is that key, and the policy doesn't accept the proof by it
IsProofFault policy verifiers now request octets (NotAccepted fault) = (token : Token) × (key : KeyParts) × IsToken policy octets token × (own : HasOwnKey token key)
    × (is_key request key.thumbprint ≡ true) × IsRefusal policy verifiers now token own.signature key fault
-- steps 8 to 10, and 12, its first part: it is accepted, and for another request
IsProofFault policy verifiers now request octets (OtherRequest fault) = (key : KeyParts) × (claims : Members) × IsSignedByOwnKey policy verifiers now octets key claims
    × (is_key request key.thumbprint ≡ true) × (first_row (request_rows claims request) ≡ Some fault)
-- an allocation was refused
IsProofFault policy verifiers now request octets OutOfMemory = Unit {0}
