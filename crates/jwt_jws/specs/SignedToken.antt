-- Signed tokens and their signatures, as properties of octets (RFC 7515, sections 5.2 and 7).
use Rattle.std.specs.Prelude.{◌≡◌, ℕ, true, false, List, [], ◌∷◌, ◌<◌, ◌≤◌, ◌⊎◌, ◌↔◌, Ok, length, None, Some, All, option_map, codes}
use Rattle.std.specs.List.{AllZip}
use Rattle.serde_json.specs.Data.{Data, Members, no_members}
use Rattle.serde_json.specs.Find.{get_member, as_object}
use Rattle.jwt_text.specs.Base64url.{Spells}
use Rattle.jwt_text.specs.Members.{has, text_at, list_at}
use Rattle.jwt_text.specs.ObjectText.{IsObjectText}
use Rattle.jwt_mac.specs.Verifying.{signing_input}
use Rattle.jwt_jws.specs.Token.{SignatureParts, Token, message_of}
use Rattle.jwt_jws.specs.Forms.{Spelled, SpelledToken, opens_object, form_of, overlap}
use Rattle.jwt_jws.specs.CompactForm.{IsCompact}
use Rattle.jwt_jws.specs.declared.fault.Form.{Form}
use Rattle.jwt_jws.specs.declared.fault.Form.TheVariants.{Compact, General, Flattened}

-- ---- the texts of a token

-- the texts of one signature, from the object that it stands in; an absent `protected` is the empty text
pub record IsSpelledIn (members : Members) (texts : Spelled) : Type 0 where
  pub signature : text_at (codes "signature") members ≡ Some texts.signature
  pub protected : ((has (codes "protected") members ≡ false) × (texts.protected ≡ [])) ⊎ (text_at (codes "protected") members ≡ Some texts.protected)
  pub header : texts.header ≡ option_map as_object (get_member (codes "header") members)

-- general JSON form (RFC 7515, section 7.2.1), with at most so many signatures
pub record IsGeneral (most : ℕ) (members : Members) (token : SpelledToken) : Type 0 where
  pub form : token.form ≡ General
  pub one_at_the_top : has (codes "signature") members ≡ false
  pub payload : text_at (codes "payload") members ≡ Some token.payload
  pub listed : (elements : List Data) × (list_at (codes "signatures") members ≡ Some elements) × AllZip (λ element texts. (members : Members) × (as_object element ≡ Some members) × IsSpelledIn members texts) elements token.signatures
  pub some : 0 < length token.signatures
  pub few : length token.signatures ≤ most

-- flattened JSON form (RFC 7515, section 7.2.2)
pub record IsFlattened (members : Members) (token : SpelledToken) : Type 0 where
  pub form : token.form ≡ Flattened
  pub alone : has (codes "signatures") members ≡ false
  pub payload : text_at (codes "payload") members ≡ Some token.payload
  pub signature : (texts : Spelled) × (token.signatures ≡ texts ∷ []) × IsSpelledIn members texts

-- JSON form: the text of an object in general or in flattened form that isn't encrypted (RFC 7516, section 7.2)
pub record IsJson (most : ℕ) (octets : List ℕ) (token : SpelledToken) : Type 0 where
  pub opens : opens_object octets ≡ true
  pub members : Members
  pub text : IsObjectText octets members
  pub plain : has (codes "ciphertext") members ≡ false
  pub shape : IsGeneral most members token ⊎ IsFlattened members token

-- compact form, with one signature and no unprotected header, or JSON form
abbrev pub IsSpelledToken : ℕ → List ℕ → SpelledToken → Type 0
IsSpelledToken most octets token =
    ((protected payload signature : List ℕ) × IsCompact octets protected payload signature
    × (token ≡ record { form = Compact; payload = payload; signatures = record { protected = protected; header = None; signature = signature } ∷ [] }))
    ⊎ IsJson most octets token

-- ---- what the texts stand for

-- the protected header: the object whose text is spelled; in JSON form the empty text has the empty one
abbrev pub IsProtected : Form → List ℕ → Members → Type 0
IsProtected Compact text protected = (octets : List ℕ) × Spells text octets × IsObjectText octets protected
IsProtected _ [] protected = protected ≡ no_members
IsProtected _ (octet ∷ rest) protected = (octets : List ℕ) × Spells (octet ∷ rest) octets × IsObjectText octets protected

pub record IsSignature (form : Form) (texts : Spelled) (parts : SignatureParts) : Type 0 where
  pub protected_text : parts.protected_text ≡ texts.protected
  pub protected : IsProtected form texts.protected parts.protected
  -- `header` is absent, or an object
  pub unprotected : texts.header ≡ option_map Some parts.unprotected
  -- no name is in both headers
  pub disjoint : overlap parts.protected parts.unprotected ≡ false
  pub octets : Spells texts.signature parts.octets

-- the octets are the signed token, with at most so many signatures
pub record IsSignedToken (most : ℕ) (octets : List ℕ) (token : Token) : Type 0 where
  pub texts : (spelled : SpelledToken) × IsSpelledToken most octets spelled × (token.form ≡ spelled.form) × (token.payload_text ≡ spelled.payload) × AllZip (IsSignature spelled.form) spelled.signatures token.signatures
  pub payload : Spells token.payload_text token.payload

-- ---- Cited by laws alone

-- what is read is a signed token, and each signed token is read
abbrev pub ReadsSignedTokens : Type 0
ReadsSignedTokens = (most : ℕ) (octets : List ℕ) (token : Token) → (form_of most octets ≡ Ok token) ↔ IsSignedToken most octets token

-- a signing input is no longer than the token
abbrev pub MessagesFit : Type 0
MessagesFit = (most : ℕ) (octets : List ℕ) (token : Token) → IsSignedToken most octets token → All (λ s. length (signing_input (message_of token s)) ≤ length octets) token.signatures

-- there are at most as many signatures as may be read, which is at least one
abbrev pub SignaturesAreFew : Type 0
SignaturesAreFew = (most : ℕ) (octets : List ℕ) (token : Token) → 0 < most → IsSignedToken most octets token → length token.signatures ≤ most
