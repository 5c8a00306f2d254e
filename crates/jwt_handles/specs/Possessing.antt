-- Proofs of possession: the policy for them that is held, and what is answered to a proof.
use Rattle.std.specs.Prelude.{◌≡◌, ◌≢◌, ℕ, ℤ, List, [], ◌∷◌, IsUtf8, Option, Some, None, option_map, if◌then◌else◌, nat_lt, Result, Ok, Err}
use Rattle.std.specs.Str.{bytes_eq}
use Rattle.serde_json.specs.Data.{Members}
use Rattle.jwt_text.specs.Rows.{first_row}
use Rattle.jwt_jws.specs.Token.{Token}
use Rattle.jwt_keys.specs.Keys.{KeyParts}
use Rattle.jwt_policy.specs.Settings.{Settings}
use Rattle.jwt_policy.specs.Document.{policy_of}
use Rattle.jwt_policy.specs.declared.policy_fault.PolicyFault.{PolicyFault}
use Rattle.jwt_verify.specs.declared.report.Fault.{Fault}
use Rattle.jwt_possession.specs.once.Accepted.{seconds}
use Rattle.jwt_possession.specs.once.Steps.{IsTaken}
use Rattle.jwt_possession.specs.declared.once.once.Once.{Once}
use Rattle.jwt_possession.specs.declared.once.once.Taken.{Taken}
use Rattle.jwt_possession.specs.ProofPolicies.{policy_rows}
use Rattle.jwt_possession.specs.Proofs.{IsProof, IsProofFault}
use Rattle.jwt_possession.specs.Possessions.{proved, owner_beside, proof_mark, proof_times}
use Rattle.jwt_possession.specs.declared.own_key.KeyFault.{KeyFault}
use Rattle.jwt_possession.specs.declared.own_key.KeyFault.TheVariants as key
use Rattle.jwt_possession.specs.declared.policy.PolicyLack.{PolicyLack}
use Rattle.jwt_possession.specs.declared.policy.PolicyLack.TheVariants as lack
use Rattle.jwt_possession.specs.declared.possession.Possession.{Possession}
use Rattle.jwt_possession.specs.declared.proof.ProofFault.{ProofFault}
use Rattle.jwt_possession.specs.declared.proof.ProofFault.TheVariants as proof
use Rattle.jwt_possession.specs.declared.request.Request.{Request}
use Rattle.jwt_possession.specs.declared.request.RequestFault.{RequestFault}
use Rattle.jwt_possession.specs.declared.request.RequestFault.TheVariants as request
use Rattle.jwt_handles.specs.declared.once_state.OnceState.{OnceState}
use Rattle.jwt_handles.specs.declared.possession_state.PossessionState.{PossessionState}
use Rattle.jwt_handles.specs.declared.state.Last.{Last}
use Rattle.jwt_handles.specs.declared.status.TheConstants.{FOW_OK, FOW_REFUSED, FOW_OUT_OF_MEMORY, FOW_ABSENT}
use Rattle.jwt_handles.specs.Evidence.{claims_kept, payload_kept}
use Rattle.jwt_handles.specs.Faults.{Numbers, bare, refusal, fault_numbers, policy_number}
use Rattle.jwt_handles.specs.ProvedKept.{proved_meanings}
use Rattle.jwt_handles.specs.Taking.{SaysTaken}

-- ---- numbers

abbrev pub lack_number : PolicyLack → ℕ
lack_number lack.Typ = 1101
lack_number lack.SharedSecret = 1102
lack_number lack.Required = 1103
lack_number lack.MaxAge = 1104

abbrev pub key_numbers : KeyFault → Numbers
key_numbers key.OutOfMemory = bare FOW_OUT_OF_MEMORY
key_numbers key.NotCompact = refusal 1201 0 0 0 0
key_numbers key.KeyMissing = refusal 1202 0 0 0 0
key_numbers key.KeyPrivate = refusal 1203 0 0 0 0
key_numbers key.KeyUnreadable = refusal 1204 0 0 0 0

abbrev pub request_number : RequestFault → ℕ
request_number request.OtherMethod = 1301
request_number request.OtherUri = 1302
request_number request.OtherNonce = 1303
request_number request.OtherAccessToken = 1304
request_number request.PathForm = 1306

-- of a fault of the token those that a verdict on it has
abbrev pub proof_numbers : ProofFault → Numbers
proof_numbers (proof.NoToken why) = fault_numbers why
proof_numbers (proof.NoKey why) = key_numbers why
proof_numbers proof.OtherKey = refusal 1305 0 0 0 0
proof_numbers (proof.NotAccepted why) = fault_numbers why
proof_numbers (proof.OtherRequest why) = refusal (request_number why) 0 0 0 0
proof_numbers proof.OutOfMemory = bare FOW_OUT_OF_MEMORY

-- ---- the policy for proofs that is held

-- the one that this document is, and no proof yet
abbrev pub HoldsPolicy : List ℕ → Option PossessionState → Type 0
HoldsPolicy document None = ⊥
HoldsPolicy document (Some state) = (policy_of document ≡ Ok state.policy) × (first_row (policy_rows state.policy) ≡ None) × (state.last ≡ None)

abbrev pub RefusesLack : Option PolicyLack → ℕ → Type 0
RefusesLack None number = ⊥
RefusesLack (Some it) number = number ≡ lack_number it

-- the document is no policy, or one that lacks something that proofs need
abbrev pub RefusesPolicy : Result Settings PolicyFault → ℕ → Type 0
RefusesPolicy (Err it) number = number ≡ policy_number it
RefusesPolicy (Ok policy) number = RefusesLack (first_row (policy_rows policy)) number

-- why what this document says isn't held: it is refused for this fault, or memory was refused
abbrev pub IsPolicyRefused : List ℕ → ℕ → ℕ → Type 0
IsPolicyRefused document status number = (status ≢ FOW_OK) × (status ≢ FOW_OUT_OF_MEMORY → (status ≡ FOW_REFUSED) × RefusesPolicy (policy_of document) number)

-- the policy is held on
abbrev pub HoldsOn : PossessionState → Option PossessionState → Type 0
HoldsOn before None = ⊥
HoldsOn before (Some after) = after.policy ≡ before.policy

-- the proof that was accepted last
abbrev pub kept_in : Option PossessionState → Option Possession
kept_in None = None
kept_in (Some state) = state.last

-- ---- a request, as C says it

-- its method, its URI, the nonce that was asked for, and the access token that came with it
pub record RequestParts : Type 0 where
  pub method : List ℕ
  pub uri : List ℕ
  pub nonce : List ℕ
  pub token : List ℕ

-- an empty nonce is none: there is no empty one (RFC 9449, section 8.1)
abbrev pub nonce_of : List ℕ → Option (List ℕ)
nonce_of [] = None
nonce_of (first ∷ rest) = Some (first ∷ rest)

-- this is the request of these parts, with an access token where claims of one were accepted
pub record IsRequest (parts : RequestParts) (accepted : Option Members) (request : Request) : Type 0 where
  pub method : request.method.now ≡ parts.method
  pub uri : request.uri.now ≡ parts.uri
  pub nonce : option_map (λ n. n.now) request.nonce ≡ nonce_of parts.nonce
  pub token : option_map (λ a. a.token.now) request.access ≡ option_map (λ _. parts.token) accepted
  pub claims : option_map (λ a. a.claims.now) request.access ≡ accepted

-- ---- what is answered to a proof

-- what is kept is of a proof to this request at this moment, by the proved verifiers
abbrev pub IsKept : Settings → ℤ → Request → List ℕ → Option Possession → Type 0
IsKept policy now request octets None = ⊥
IsKept policy now request octets (Some it) = (key : KeyParts) × ((proved it).thumbprint ≡ key.thumbprint)
    × IsProof policy proved_meanings now request octets key (proved it).claims × ((proved it).times ≡ proof_times policy (proved it).claims)
    × ((proved it).owner ≡ owner_beside (option_map (λ a. a.claims.now) request.access) (proved it).thumbprint)

-- nothing is kept, and the numbers are those of the first cause why it is none
abbrev pub IsNone : Settings → ℤ → Request → List ℕ → ℕ → ℕ → Option Possession → Type 0
IsNone policy now request octets status number kept = (kept ≡ None) × ((fault : ProofFault) × IsProofFault policy proved_meanings now request octets fault
    × ((proof_numbers fault).verdict ≡ status) × ((proof_numbers fault).fault ≡ number))

-- FOW_OK where the octets are a proof to this request
abbrev pub SaysProof : Settings → ℤ → Request → List ℕ → ℕ → ℕ → Option Possession → Type 0
SaysProof policy now request octets status number kept =
    (status ≡ FOW_OK → IsKept policy now request octets kept) × (status ≢ FOW_OK → IsNone policy now request octets status number kept)

-- the same of the request of these parts; no proof is for a method, a URI or a nonce that isn't in UTF-8
pub record SaysFor (policy : Settings) (now : ℤ) (parts : RequestParts) (claims : Option Members) (octets : List ℕ) (status number : ℕ) (kept : Option Possession) : Type 0 where
  pub says : IsUtf8 parts.method → IsUtf8 parts.uri → IsUtf8 parts.nonce → (request : Request) × IsRequest parts claims request × SaysProof policy now request octets status number kept
  pub method : ¬ IsUtf8 parts.method → (status ≡ FOW_REFUSED) × (number ≡ request_number request.OtherMethod)
  pub uri : IsUtf8 parts.method → ¬ IsUtf8 parts.uri → (status ≡ FOW_REFUSED) × (number ≡ request_number request.OtherUri)
  pub nonce : IsUtf8 parts.method → IsUtf8 parts.uri → ¬ IsUtf8 parts.nonce → (status ≡ FOW_REFUSED) × (number ≡ request_number request.OtherNonce)

-- ---- the access token beside a proof

-- the claims that were accepted, where the token has the payload that was
abbrev pub claims_beside : List ℕ → Option (List ℕ) → Option Members → Option Members
claims_beside payload None claims = None
claims_beside payload (Some accepted) claims = if bytes_eq payload accepted then claims else None

-- those of the token that was accepted last, where these octets are it
abbrev pub claims_of_last : Result Token Fault → Last → Option Members
claims_of_last (Ok signed) last = claims_beside signed.payload (payload_kept last) (claims_kept last)
claims_of_last (Err fault) last = None

-- what is answered to a proof beside a token that has these claims; FOW_ABSENT where it isn't the one that was accepted last
abbrev pub SaysBeside : Option Members → Settings → ℤ → RequestParts → List ℕ → ℕ → ℕ → Option Possession → Type 0
SaysBeside None policy now parts octets status number kept = status ≡ FOW_ABSENT
SaysBeside (Some claims) policy now parts octets status number kept = SaysFor policy now parts (Some claims) octets status number kept

-- ---- a proof counts once

-- the call for the proof that is kept, if there is one, takes the one memory to the other, and its answer has these numbers
abbrev pub TakesProof : Option Possession → ℤ → Once → ℕ → ℕ → Once → Type 0
TakesProof None now old status taken new = (status ≡ FOW_ABSENT) × (taken ≡ 0) × (new ≡ old)
TakesProof (Some it) now old status taken new =
    (answer : Taken) × IsTaken old (proof_mark (proved it)) (proved it).owner (proved it).times (seconds now) answer new
    × SaysTaken (nat_lt (proved it).times.issued old.opened) (Ok answer) status taken

-- the same of a memory that is held on
abbrev pub TakesKept : Option Possession → ℤ → OnceState → ℕ → ℕ → Option OnceState → Type 0
TakesKept kept now old status taken None = ⊥
TakesKept kept now old status taken (Some new) = TakesProof kept now old.once status taken new.once
