-- Why there is no JWK: the one fault that octets have. Want of memory may stand in place of it.
use Rattle.std.specs.Prelude.{◌≡◌, ◌≢◌, ◌≤◌, ◌⊎◌, ℕ, ◌-◌, List, [], ◌∷◌, length, Result, Err}
use Rattle.jwt_mac.specs.Verifying.{KeyOctets}
use Rattle.jwt_jwk.specs.der.Reading.{read, read_rsa}
use Rattle.jwt_jwk.specs.declared.der.refusal.Refusal.{Refusal}
use Rattle.jwt_jwk.specs.text_blocks.Pem.{IsBlock, IsFirstFault, IsOneBlock, IsOneFault, trimmed}
use Rattle.jwt_jwk.specs.declared.text_blocks.fault.PemFault.TheVariants as pem
use Rattle.jwt_jwk.specs.declared.text_blocks.label.Label.{Label}
use Rattle.jwt_jwk.specs.declared.text_blocks.label.Label.TheVariants.{PublicKey, RsaPublicKey}
use Rattle.jwt_jwk.specs.Converted.{IsFirst}
use Rattle.jwt_jwk.specs.declared.fault.JwkFault.{JwkFault}
use Rattle.jwt_jwk.specs.declared.fault.JwkFault.TheVariants.{Pem, Key, TooManyKeys, OutOfMemory}

-- the key whose encoding octets are, as their label announces it, or the first fault
abbrev pub reading_of : Label → List ℕ → Result KeyOctets Refusal
reading_of PublicKey octets = read octets
reading_of RsaPublicKey octets = read_rsa octets

-- why octets behind such a label are no public key
abbrev pub IsKeyFault : Label → List ℕ → JwkFault → Type 0
IsKeyFault label octets (Key refusal) = reading_of label octets ≡ Err refusal
IsKeyFault label octets OutOfMemory = Unit {0}
IsKeyFault label octets _ = ⊥

-- why octets are no public key in DER: why they are no SubjectPublicKeyInfo
abbrev pub IsDerFault : List ℕ → JwkFault → Type 0
IsDerFault = IsKeyFault PublicKey

-- why a text is no PEM file of one public key
abbrev pub IsPemFault : List ℕ → JwkFault → Type 0
IsPemFault text (Pem pem.OutOfMemory) = ⊥
IsPemFault text (Pem fault) = IsOneFault text fault
IsPemFault text (Key refusal) = (label : Label) × (octets : List ℕ) × IsOneBlock label octets text × (reading_of label octets ≡ Err refusal)
IsPemFault text TooManyKeys = ⊥
IsPemFault text OutOfMemory = Unit {0}

-- ---- several keys

-- the text begins, behind blanks, with the blocks of these public keys, and this follows
abbrev pub AreFirst : List KeyOctets → List ℕ → List ℕ → Type 0
AreFirst [] text rest = text ≡ rest
AreFirst (key ∷ keys) text rest = (behind : List ℕ) × IsFirst key text behind × AreFirst keys behind rest

-- why no key is taken from the front of a text that isn't blank, where so many more may be
abbrev pub IsNextFault : ℕ → List ℕ → JwkFault → Type 0
IsNextFault left text (Pem pem.OutOfMemory) = ⊥
IsNextFault left text (Pem fault) = (left ≢ 0) × IsFirstFault text fault
IsNextFault left text (Key refusal) = (left ≢ 0) × ((label : Label) × (octets rest : List ℕ) × IsBlock label octets (trimmed text) rest × (reading_of label octets ≡ Err refusal))
IsNextFault left text TooManyKeys = left ≡ 0
IsNextFault left text OutOfMemory = Unit {0}

-- why not all of a text is taken as keys, of which so many may be: that of what stands behind the good ones
pub record IsFault (most : ℕ) (text : List ℕ) (fault : JwkFault) : Type 0 where
  pub keys : List KeyOctets
  pub few : length keys ≤ most
  pub rest : List ℕ
  pub first : AreFirst keys text rest
  pub some : trimmed rest ≢ []
  pub next : IsNextFault (most - length keys) rest fault

-- why a text is no PEM file of 1 to 1,024 public keys: it is blank, or has such a fault
abbrev pub IsSetFault : List ℕ → JwkFault → Type 0
IsSetFault text OutOfMemory = Unit {0}
IsSetFault text fault = ((trimmed text ≡ []) × (fault ≡ Pem pem.Line)) ⊎ IsFault 1024 text fault
