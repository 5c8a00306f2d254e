-- The public key in a text, and its JWK.
use Rattle.std.specs.Prelude.{◌≡◌, ◌≤◌, ℕ, Bool, List, [], ◌∷◌, ◌++◌, length, Option, Some, None}
use Rattle.jwt_mac.specs.Verifying.{KeyOctets}
use Rattle.jwt_jwk.specs.der.Der.{AreOctets, IsPublicKey, IsRsaText, spki}
use Rattle.jwt_jwk.specs.text_blocks.Pem.{IsBlock, IsOneBlock, trimmed}
use Rattle.jwt_jwk.specs.declared.text_blocks.label.Label.{Label}
use Rattle.jwt_jwk.specs.declared.text_blocks.label.Label.TheVariants.{PublicKey, RsaPublicKey}
use Rattle.jwt_jwk.specs.Jwk.{ReadsAsKey, jwk_text, thumbprint_of_key}
use Rattle.jwt_jwk.specs.Sets.{AreRead, IsJwkSet, jwk_texts}
use Rattle.jwt_jwk.specs.declared.kid.Kid.{Kid}
use Rattle.jwt_jwk.specs.declared.kid.Kid.TheVariants.{Absent, Name, Thumbprint}

-- the `kid` of a key
abbrev pub kid_of : Kid → KeyOctets → Option (List ℕ)
kid_of Absent = λ key. None
kid_of (Name text) = λ key. Some text.now
kid_of Thumbprint = λ key. Some (thumbprint_of_key key)

-- the octets are the encoding of the key that the label announces
abbrev pub IsEncoding : Label → KeyOctets → List ℕ → Type 0
IsEncoding PublicKey key octets = octets ≡ spki key
IsEncoding RsaPublicKey key octets = IsRsaText key octets

-- the octets are this encoding of a public key, and the text is the JWK of that key, and read as it
pub record IsJwkOfBlock (label : Label) (octets : List ℕ) (kid : KeyOctets → Option (List ℕ)) (alg : Option (List ℕ)) (text : List ℕ) : Type 0 where
  pub key : KeyOctets
  pub public : IsPublicKey key
  pub encoded : IsEncoding label key octets
  pub is : text ≡ jwk_text (kid key) alg key
  pub read : ReadsAsKey (kid key) alg key text

-- the octets are an encoding of a public key, and the text is the JWK of that key
pub record IsJwkOf (octets : List ℕ) (kid : KeyOctets → Option (List ℕ)) (alg : Option (List ℕ)) (text : List ℕ) : Type 0 where
  pub label : Label
  pub jwk : IsJwkOfBlock label octets kid alg text

-- the text is a PEM file of this one public key
pub record IsPemOf (k : KeyOctets) (text : List ℕ) : Type 0 where
  pub label : Label
  pub octets : List ℕ
  pub are : AreOctets octets
  pub public : IsPublicKey k
  pub encoded : IsEncoding label k octets
  pub block : IsOneBlock label octets text

-- a PEM file of a public key, and a text that is the JWK of that key, and read as it
pub record IsJwkOfPem (pem : List ℕ) (kid : KeyOctets → Option (List ℕ)) (alg : Option (List ℕ)) (text : List ℕ) : Type 0 where
  pub key : KeyOctets
  pub written : IsPemOf key pem
  pub is : text ≡ jwk_text (kid key) alg key
  pub read : ReadsAsKey (kid key) alg key text

-- ---- several keys

-- the text begins, behind blanks, with the block of this public key, and this follows
pub record IsFirst (key : KeyOctets) (text rest : List ℕ) : Type 0 where
  pub label : Label
  pub octets : List ℕ
  pub are : AreOctets octets
  pub public : IsPublicKey key
  pub encoded : IsEncoding label key octets
  pub block : IsBlock label octets (trimmed text) rest

-- the text is a PEM file of these public keys: their blocks in this order, with blanks before, between and behind
abbrev pub IsFileOf : List KeyOctets → List ℕ → Type 0
IsFileOf [] text = trimmed text ≡ []
IsFileOf (key ∷ keys) text = (rest : List ℕ) × IsFirst key text rest × IsFileOf keys rest

-- the text is the key set of the keys that a PEM file has, 1 to 1,024
pub record IsSetOf (pem : List ℕ) (kid : KeyOctets → Option (List ℕ)) (alg : Option (List ℕ)) (text : List ℕ) : Type 0 where
  pub first : KeyOctets
  pub others : List KeyOctets
  pub few : length others ≤ 1023
  pub file : IsFileOf (first ∷ others) pem
  pub set : IsJwkSet kid alg (first ∷ others) text

-- the octets are an encoding of a public key, and the text is the key set of that key
pub record IsSetOfOne (octets : List ℕ) (kid : KeyOctets → Option (List ℕ)) (alg : Option (List ℕ)) (text : List ℕ) : Type 0 where
  pub label : Label
  pub key : KeyOctets
  pub public : IsPublicKey key
  pub encoded : IsEncoding label key octets
  pub set : IsJwkSet kid alg (key ∷ []) text

-- ---- Cited by contracts of private functions alone

-- from these octets to those, the JWKs of the keys of a file are appended, of so many at most
pub record Adds (later : Bool) (kid : KeyOctets → Option (List ℕ)) (alg : Option (List ℕ)) (most : ℕ) (text before after : List ℕ) : Type 0 where
  pub keys : List KeyOctets
  pub few : length keys ≤ most
  pub file : IsFileOf keys text
  pub each : AreRead kid alg keys
  pub appended : after ≡ before ++ jwk_texts later kid alg keys
