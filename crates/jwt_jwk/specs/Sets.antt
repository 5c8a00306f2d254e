-- The key set of JWKs (RFC 7517, section 5), and how it is read back.
use Rattle.std.specs.Prelude.{◌≡◌, ◌≤◌, ℕ, suc, Bool, true, List, [], ◌∷◌, ◌++◌, length, Option, Ok, codes}
use Rattle.serde_json.specs.Data.{array, object, Items, no_items, item, Members, no_members, member}
use Rattle.serde_json.specs.Written.{compact_text, comma_if}
use Rattle.jwt_text.specs.declared.limits.TheConstants.{LONGEST_KEY_SET}
use Rattle.jwt_mac.specs.Verifying.{KeyOctets}
use Rattle.jwt_keys.specs.Keys.{KeyParts}
use Rattle.jwt_keys.specs.KeySets.{key_set_of}
use Rattle.jwt_jwk.specs.Jwk.{ReadsAsKey, jwk, jwk_text, read_key}

-- the JWKs of keys, in their order
abbrev pub jwks : (KeyOctets → Option (List ℕ)) → Option (List ℕ) → List KeyOctets → Items
jwks kid alg [] = no_items
jwks kid alg (key ∷ keys) = item (object (jwk (kid key) alg key)) (jwks kid alg keys)

-- the key set of keys: the list of their JWKs, and no other member
abbrev pub jwk_set : (KeyOctets → Option (List ℕ)) → Option (List ℕ) → List KeyOctets → Members
jwk_set kid alg keys = member (codes "keys") (array (jwks kid alg keys)) no_members

-- its text, in compact JSON
abbrev pub jwk_set_text : (KeyOctets → Option (List ℕ)) → Option (List ℕ) → List KeyOctets → List ℕ
jwk_set_text kid alg keys = compact_text (object (jwk_set kid alg keys))

-- keys as they are read, the first of which stands at this place
abbrev pub read_keys : (KeyOctets → Option (List ℕ)) → Option (List ℕ) → ℕ → List KeyOctets → List KeyParts
read_keys kid alg place [] = []
read_keys kid alg place (key ∷ keys) = read_key (kid key) alg key place ∷ read_keys kid alg (suc place) keys

-- `jwt_keys` reads the text as the set of exactly these keys, in their order, and skips nothing; it reads no text of more than 4,194,304 octets
abbrev pub ReadsAsKeys : (KeyOctets → Option (List ℕ)) → Option (List ℕ) → List KeyOctets → List ℕ → Type 0
ReadsAsKeys kid alg keys text = length text ≤ LONGEST_KEY_SET → key_set_of text ≡ Ok (record { keys = read_keys kid alg 0 keys; skips = [] })

-- each of their JWKs is read as its key
abbrev pub AreRead : (KeyOctets → Option (List ℕ)) → Option (List ℕ) → List KeyOctets → Type 0
AreRead kid alg [] = Unit {0}
AreRead kid alg (key ∷ keys) = ReadsAsKey (kid key) alg key (jwk_text (kid key) alg key) × AreRead kid alg keys

-- the text is that of the key set of these keys, and is read as exactly that, also with a line feed behind it
pub record IsJwkSet (kid : KeyOctets → Option (List ℕ)) (alg : Option (List ℕ)) (keys : List KeyOctets) (text : List ℕ) : Type 0 where
  pub is : text ≡ jwk_set_text kid alg keys
  pub each : AreRead kid alg keys
  pub read : ReadsAsKeys kid alg keys text
  pub line : ReadsAsKeys kid alg keys (text ++ codes "\n")

-- ---- Cited by contracts of private functions alone

-- the texts of JWKs, with commas between, and before the first where it is a later one
abbrev pub jwk_texts : Bool → (KeyOctets → Option (List ℕ)) → Option (List ℕ) → List KeyOctets → List ℕ
jwk_texts later kid alg [] = []
jwk_texts later kid alg (key ∷ keys) = comma_if later ++ (jwk_text (kid key) alg key ++ jwk_texts true kid alg keys)

-- such texts in a key set
abbrev pub set_text : List ℕ → List ℕ
set_text texts = codes "{\"keys\":[" ++ (texts ++ codes "]}")
