-- The meaning of a verifier that the caller hands in, over the octets that it is asked about.
use Rattle.std.specs.Prelude.{◌≡◌, ℕ, Bool, true, false, List, [], ◌∷◌, ◌++◌, Option}
use Rattle.std.specs.List.{find}
use Rattle.jwt_mac.specs.declared.algorithm.Alg.{Alg}
use Rattle.jwt_mac.specs.declared.message.Message.{Message}
use Rattle.jwt_mac.specs.declared.key_view.EcCurve.{EcCurve}
use Rattle.jwt_mac.specs.declared.key_view.EdCurve.{EdCurve}
use Rattle.jwt_mac.specs.declared.key_view.KeyView.{KeyView}
use Rattle.jwt_mac.specs.declared.key_view.KeyView.TheVariants.{Oct, Rsa, Ec, Okp}
use Rattle.jwt_mac.specs.declared.owned_key.OwnedKey.{OwnedKey}
use Rattle.jwt_mac.specs.declared.owned_key.OwnedKey.TheVariants as owned
use Rattle.jwt_mac.specs.declared.message.Answer.{Answer}
use Rattle.jwt_mac.specs.declared.message.Answer.TheVariants.{Valid, Invalid, NoMemory}

-- a key, by the octets of its members (RFC 7518, section 6; RFC 8037, section 2)
pub data KeyOctets : Type 0 where
  OctKey : (k : List ℕ) → KeyOctets
  RsaKey : (n e : List ℕ) → KeyOctets
  EcKey : (curve : EcCurve) (x y : List ℕ) → KeyOctets
  OkpKey : (curve : EdCurve) (x : List ℕ) → KeyOctets

-- a message, by the octets of the two texts of its signing input
pub record MessageOctets : Type 0 where
  pub protected : List ℕ
  pub payload : List ℕ

-- the octets that a view lends
abbrev pub key_octets : KeyView → KeyOctets
key_octets (Oct k) = OctKey k.now
key_octets (Rsa n e) = RsaKey n.now e.now
key_octets (Ec curve x y) = EcKey curve x.now y.now
key_octets (Okp curve x) = OkpKey curve x.now

-- the octets that a key owns, by those that each of its containers holds
abbrev pub owned_octets : {T : Type 0} → (T → List ℕ) → OwnedKey T → KeyOctets
owned_octets octets (owned.Oct k) = OctKey (octets k)
owned_octets octets (owned.Rsa n e) = RsaKey (octets n) (octets e)
owned_octets octets (owned.Ec curve x y) = EcKey curve (octets x) (octets y)
owned_octets octets (owned.Okp curve x) = OkpKey curve (octets x)

-- the octets that a message lends
abbrev pub message_octets : Message → MessageOctets
message_octets m = record { protected = m.protected.now; payload = m.payload.now }

-- the signing input: the protected text, a period, the payload text (RFC 7515, section 5.1)
abbrev pub signing_input : MessageOctets → List ℕ
signing_input m = m.protected ++ 46 ∷ [] ++ m.payload

-- which algorithms a verifier names, which signatures it accepts by an algorithm, a key and a message, and where it may
-- lack memory
pub record Meaning : Type 0 where
  pub named : Alg → Bool
  pub accepts : Alg → KeyOctets → MessageOctets → List ℕ → Bool
  pub may_lack : Alg → KeyOctets → MessageOctets → List ℕ → Bool

-- the answers that a verifier may give, by whether it accepts the signature and whether it may lack memory
abbrev pub AnswersBy : Bool → Bool → Answer → Type 0
AnswersBy accepted may_lack Valid = accepted ≡ true
AnswersBy accepted may_lack Invalid = accepted ≡ false
AnswersBy accepted may_lack NoMemory = may_lack ≡ true

-- the first verifier that names the algorithm, if any
abbrev pub first_naming : List Meaning → Alg → Option Meaning
first_naming verifiers alg = find (λ v. v.named alg) verifiers
