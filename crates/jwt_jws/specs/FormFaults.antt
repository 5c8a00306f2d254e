-- The faults of form: the first cause why octets are no signed token, each a property of the octets (RFC 7515, sections 5.2 and 7).
use Rattle.std.specs.Prelude.{◌≡◌, ◌≢◌, ℕ, true, false, List, [], ◌<◌, ◌⊎◌, length, Option, Some, None, Err, ◌↔◌, option_map, slice_get, codes}
use Rattle.std.specs.List.{count_by}
use Rattle.serde_json.specs.Data.{Members, object}
use Rattle.jwt_text.specs.Base64url.{Spells}
use Rattle.jwt_text.specs.Members.{has}
use Rattle.jwt_text.specs.ObjectText.{IsObjectText, reading, colons, members_entries}
use Rattle.jwt_jws.specs.Token.{SignatureParts}
use Rattle.jwt_jws.specs.Forms.{Spelled, SpelledToken, form_of, is_period, opens_object, overlap}
use Rattle.jwt_jws.specs.SignedToken.{IsGeneral, IsFlattened, IsSpelledToken, IsProtected, IsSignature}
use Rattle.jwt_jws.specs.declared.fault.Form.{Form}
use Rattle.jwt_jws.specs.declared.fault.FormFault.{FormFault}
use Rattle.jwt_jws.specs.declared.fault.FormFault.TheVariants.{Empty, Encrypted, Segments, Json, NameTwice, Members as WrongMembers, TooManySignatures, Base64, Header, UnprotectedKind, NamesOverlap}
use Rattle.jwt_jws.specs.declared.fault.Place.TheVariants.{Payload, Protected, Signature}

-- the texts have these headers: the protected text spells the protected one, and `header` is absent or the unprotected one
pub record HasHeaders (form : Form) (texts : Spelled) (protected_header : Members) (unprotected_header : Option Members) : Type 0 where
  pub protected : IsProtected form texts.protected protected_header
  pub unprotected : texts.header ≡ option_map Some unprotected_header

-- Why the texts of the signature of this number are those of no signature, each cause where none before it holds: the protected text isn't
-- base64url; its octets are no object text; `header` is no object; a name is in both headers; the signature text isn't
-- base64url.
abbrev pub IsSignatureFault : Form → ℕ → Spelled → FormFault → Type 0
IsSignatureFault form number texts (Base64 (Protected place)) = (place ≡ number) × ((octets : List ℕ) → ¬ Spells texts.protected octets)
IsSignatureFault form number texts (Header place) = (place ≡ number) × ((octets : List ℕ) × Spells texts.protected octets) × ((protected : Members) → ¬ IsProtected form texts.protected protected)
IsSignatureFault form number texts (UnprotectedKind place) = (place ≡ number) × ((protected : Members) × IsProtected form texts.protected protected) × (texts.header ≡ Some None)
IsSignatureFault form number texts (NamesOverlap place) = (place ≡ number) × ((protected : Members) × (unprotected : Option Members) × HasHeaders form texts protected unprotected × (overlap protected unprotected ≡ true))
IsSignatureFault form number texts (Base64 (Signature place)) = (place ≡ number)
    × ((protected : Members) × (unprotected : Option Members) × HasHeaders form texts protected unprotected × (overlap protected unprotected ≡ false)) × ((octets : List ℕ) → ¬ Spells texts.signature octets)
IsSignatureFault form number texts _ = ⊥

-- some signature has this fault, and no signature before it has one
abbrev pub IsFirstSignatureFault : Form → List Spelled → FormFault → Type 0
IsFirstSignatureFault form signatures fault = (number : ℕ) × (texts : Spelled) × (slice_get signatures number ≡ Some texts) × IsSignatureFault form number texts fault
    × ((place : ℕ) (other : Spelled) → place < number → slice_get signatures place ≡ Some other → (parts : SignatureParts) × IsSignature form other parts)

-- in compact form it goes by the number of periods
abbrev pub IsFormFault : ℕ → List ℕ → FormFault → Type 0
IsFormFault most octets Empty = octets ≡ []
IsFormFault most octets Segments = (octets ≢ []) × (opens_object octets ≡ false) × ((count_by is_period octets ≢ 2) × (count_by is_period octets ≢ 4))
IsFormFault most octets Encrypted = ((octets ≢ []) × (opens_object octets ≡ false) × (count_by is_period octets ≡ 4))
    ⊎ ((opens_object octets ≡ true) × ((members : Members) × IsObjectText octets members × (has (codes "ciphertext") members ≡ true)))
IsFormFault most octets Json = (opens_object octets ≡ true) × ((members : Members) → reading octets ≢ Some (object members))
IsFormFault most octets NameTwice = (opens_object octets ≡ true) × ((members : Members) × (reading octets ≡ Some (object members)) × (colons octets ≢ members_entries members))
-- in JSON form, which isn't encrypted, the object has neither shape, however many signatures are allowed
IsFormFault most octets WrongMembers = (members : Members) × ((opens_object octets ≡ true) × IsObjectText octets members × (has (codes "ciphertext") members ≡ false))
    × ((count : ℕ) (token : SpelledToken) → ¬ (IsGeneral count members token ⊎ IsFlattened members token))
IsFormFault most octets TooManySignatures = (members : Members) × ((opens_object octets ≡ true) × IsObjectText octets members × (has (codes "ciphertext") members ≡ false))
    × ((count : ℕ) × (token : SpelledToken) × IsGeneral count members token × (most < length token.signatures))
IsFormFault most octets (Base64 Payload) = (texts : SpelledToken) × IsSpelledToken most octets texts × ((decoded : List ℕ) → ¬ Spells texts.payload decoded)
IsFormFault most octets fault = (texts : SpelledToken) × IsSpelledToken most octets texts × ((decoded : List ℕ) × Spells texts.payload decoded) × IsFirstSignatureFault texts.form texts.signatures fault

-- ---- Cited by laws alone

-- the answer of reading is a fault exactly where it is the first cause that holds
abbrev pub TellsFormFaults : Type 0
TellsFormFaults = (most : ℕ) (octets : List ℕ) (fault : FormFault) → (form_of most octets ≡ Err fault) ↔ IsFormFault most octets fault
