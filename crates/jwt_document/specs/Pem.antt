-- The keys that stand in the document in PEM.
use Rattle.std.specs.Prelude.{◌≡◌, ◌≢◌, ◌≤◌, ◌<◌, ◌⊎◌, ℕ, ◌+◌, List, [], ◌∷◌, codes, true, false, Option, Some, None, option_and_then, Result, Ok, Err, length, slice_get}
use Rattle.serde_json.specs.Data.{Members}
use Rattle.serde_json.specs.Find.{as_object}
use Rattle.jwt_mac.specs.declared.algorithm.Alg.{Alg}
use Rattle.jwt_mac.specs.Verifying.{KeyOctets}
use Rattle.jwt_text.specs.Members.{text_at, object_at, list_at}
use Rattle.jwt_text.specs.declared.limits.TheConstants.{LONGEST_KEY_SET}
use Rattle.jwt_keys.specs.KeySets.{KeyList}
use Rattle.jwt_keys.specs.declared.fault.KeysFault.TheVariants.{TooLong}
use Rattle.jwt_jwk.specs.Converted.{IsFileOf}
use Rattle.jwt_jwk.specs.Jwk.{thumbprint_of_key}
use Rattle.jwt_jwk.specs.Refusals.{IsSetFault}
use Rattle.jwt_jwk.specs.Sets.{read_keys, jwk_set_text}
use Rattle.jwt_jwk.specs.declared.fault.JwkFault.TheVariants.{OutOfMemory}
use Rattle.jwt_document.specs.declared.entries.Source.{Source}
use Rattle.jwt_document.specs.declared.entries.Source.TheVariants as source
use Rattle.jwt_document.specs.declared.fault.ServiceFault.{ServiceFault}
use Rattle.jwt_document.specs.declared.fault.ServiceFault.TheVariants as fault
use Rattle.jwt_document.specs.Entries.{Issuer}
use Rattle.jwt_document.specs.Given.{has_usable}

-- what the entry of this number says of its keys
abbrev pub keys_at : ℕ → Members → Option Members
keys_at n ms = option_and_then (object_at (codes "keys")) (option_and_then as_object (option_and_then (λ ds. slice_get ds n) (list_at (codes "issuers") ms)))

-- the text in PEM of the entry of this number
abbrev pub pem_at : ℕ → Members → Source → Option (List ℕ)
pem_at n ms source.Pem = option_and_then (text_at (codes "pem")) (keys_at n ms)
pem_at n ms _ = None

-- keys as a key set has them, each with its thumbprint as `kid` (RFC 7638) and without `alg`: PEM has no names
abbrev pub print_of : KeyOctets → Option (List ℕ)
print_of = λ key. Some (thumbprint_of_key key)

abbrev pub named_set : List KeyOctets → KeyList
named_set keys = record { keys = read_keys print_of None 0 keys; skips = [] }

-- the text is a PEM file of these public keys, 1 to 1,024 (RFC 7468, section 13)
pub record HasKeys (text : List ℕ) (keys : List KeyOctets) : Type 0 where
  pub some : 1 ≤ length keys
  pub few : length keys ≤ 1024
  pub file : IsFileOf keys text

-- the keys of a text in PEM, of which one has to be of use, or why they aren't had
abbrev pub IsOfPem : ℕ → List Alg → List ℕ → Result KeyList ServiceFault → Type 0
IsOfPem n algs text (Ok set) = (keys : List KeyOctets) × HasKeys text keys × (set ≡ named_set keys) × (has_usable algs set.keys ≡ true)
IsOfPem n algs text (Err fault.OutOfMemory) = Unit {0}
IsOfPem n algs text (Err (fault.Pem m f)) = (m ≡ n) × IsSetFault text f × (f ≢ OutOfMemory) × ((keys : List KeyOctets) → ¬ HasKeys text keys)
IsOfPem n algs text (Err (fault.NoUsableKey m)) = (m ≡ n) × ((keys : List KeyOctets) × HasKeys text keys × (has_usable algs (named_set keys).keys ≡ false))
IsOfPem n algs text (Err (fault.Keys m TooLong)) = (m ≡ n) × ((keys : List KeyOctets) × HasKeys text keys × (LONGEST_KEY_SET < length (jwk_set_text print_of None keys)))
IsOfPem n algs text (Err _) = ⊥

-- ---- issuer by issuer

-- of an entry that has a text in PEM its keys, of another none
abbrev pub IsOf : ℕ → List Alg → Option (List ℕ) → Result (Option KeyList) ServiceFault → Type 0
IsOf n algs None answer = answer ≡ Ok None
IsOf n algs (Some text) (Ok None) = ⊥
IsOf n algs (Some text) (Ok (Some set)) = IsOfPem n algs text (Ok set)
IsOf n algs (Some text) (Err f) = IsOfPem n algs text (Err f)

abbrev pub IsOfIssuer : Members → ℕ → Issuer → Result (Option KeyList) ServiceFault → Type 0
IsOfIssuer ms n issuer answer = IsOf n issuer.policy.run.algs (pem_at n ms issuer.source) answer

-- one by one, where the first of them has this number
abbrev pub AreOf : Members → ℕ → List Issuer → List (Option KeyList) → Type 0
AreOf ms n [] [] = Unit {0}
AreOf ms n (issuer ∷ issuers) (set ∷ sets) = IsOfIssuer ms n issuer (Ok set) × AreOf ms (n + 1) issuers sets
AreOf ms n _ _ = ⊥

-- the fault of the first whose keys can't be had
abbrev pub IsFirstOf : Members → ℕ → List Issuer → ServiceFault → Type 0
IsFirstOf ms n [] f = ⊥
IsFirstOf ms n (issuer ∷ issuers) f = IsOfIssuer ms n issuer (Err f) ⊎ ((set : Option KeyList) × IsOfIssuer ms n issuer (Ok set) × IsFirstOf ms (n + 1) issuers f)
