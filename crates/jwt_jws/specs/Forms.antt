-- The signed token that octets are, or the first cause why they are none (RFC 7515, sections 7.1 and 7.2).
use Rattle.std.specs.Prelude.{ℕ, ◌==◌, ◌||◌, Bool, true, false, not, List, [], ◌∷◌, length, Option, Some, None, Result, Ok, Err, option_map, nat_lt, if◌then◌else◌, codes}
use Rattle.std.specs.List.{slice_split, list_any, find}
use Rattle.std.specs.Option.{option_map_or}
use Rattle.serde_json.specs.Data.{Data, Members, no_members}
use Rattle.serde_json.specs.Find.{get_member, as_object}
use Rattle.jwt_text.specs.Answers.{◌>>=◌, or_fault, some_or, each}
use Rattle.jwt_text.specs.Base64url.{spelled}
use Rattle.jwt_text.specs.Members.{has, text_at, list_at, member_names}
use Rattle.jwt_text.specs.ObjectText.{object_of}
use Rattle.jwt_text.specs.declared.fault.TextFault.{TextFault}
use Rattle.jwt_text.specs.declared.fault.TextFault.TheVariants.{NameTwice as TextNameTwice}
use Rattle.jwt_jws.specs.Token.{SignatureParts, Token}
use Rattle.jwt_jws.specs.declared.fault.FormFault.{FormFault}
use Rattle.jwt_jws.specs.declared.fault.FormFault.TheVariants.{Empty, Encrypted, Segments, Json, NameTwice, Members as WrongMembers, TooManySignatures, Base64, Header, UnprotectedKind, NamesOverlap}
use Rattle.jwt_jws.specs.declared.fault.Place.TheVariants.{Payload, Protected, Signature}
use Rattle.jwt_jws.specs.declared.fault.Form.{Form}
use Rattle.jwt_jws.specs.declared.fault.Form.TheVariants.{Compact, General, Flattened}

-- A signature as it is spelled: the protected text, the member `header` (None: absent; Some None: of another kind than an
-- object), and the signature text.
pub record Spelled : Type 0 where
  pub protected : List ℕ
  pub header : Option (Option Members)
  pub signature : List ℕ

-- a token as it is spelled
pub record SpelledToken : Type 0 where
  pub form : Form
  pub payload : List ℕ
  pub signatures : List Spelled

-- ---- compact form: three parts between periods; five are an encrypted token (RFC 7516, section 7.1)

abbrev pub is_period : ℕ → Bool
is_period octet = octet == 46

abbrev pub compact_token : List ℕ → List ℕ → List ℕ → SpelledToken
compact_token protected payload signature = record { form = Compact; payload = payload; signatures = record { protected = protected; header = None; signature = signature } ∷ [] }

abbrev pub compact_of : List (List ℕ) → Result SpelledToken FormFault
compact_of (protected ∷ payload ∷ signature ∷ []) = Ok (compact_token protected payload signature)
compact_of (a ∷ b ∷ c ∷ d ∷ e ∷ []) = Err Encrypted
compact_of _ = Err Segments

unfoldable pub compact : List ℕ → Result SpelledToken FormFault
compact octets = compact_of (slice_split is_period octets)

-- the three texts that two periods part
pub record CompactTexts : Type 0 where
  pub protected : List ℕ
  pub payload : List ℕ
  pub signature : List ℕ

abbrev pub three_texts : List (List ℕ) → Option CompactTexts
three_texts (protected ∷ payload ∷ signature ∷ []) = Some (record { protected = protected; payload = payload; signature = signature })
three_texts _ = None

abbrev pub compact_texts : List ℕ → Option CompactTexts
compact_texts octets = three_texts (slice_split is_period octets)

-- ---- JSON form, general and flattened

-- an absent `protected` is the empty text
abbrev pub protected_text : Members → Result (List ℕ) FormFault
protected_text members = if has (codes "protected") members then some_or WrongMembers (text_at (codes "protected") members) else Ok []

unfoldable pub spelled_signature : Members → Result Spelled FormFault
spelled_signature members = do
  signature ← some_or WrongMembers (text_at (codes "signature") members)
  protected ← protected_text members
  Ok (record { protected = protected; header = option_map as_object (get_member (codes "header") members); signature = signature })

unfoldable pub flattened : Members → Result SpelledToken FormFault
flattened members = do
  payload ← some_or WrongMembers (text_at (codes "payload") members)
  signature ← spelled_signature members
  Ok (record { form = Flattened; payload = payload; signatures = signature ∷ [] })

abbrev pub spelled_element : ℕ → Data → Result Spelled FormFault
spelled_element number element = some_or WrongMembers (as_object element) >>= spelled_signature

-- at least one signature and at most so many
abbrev pub within : ℕ → List Spelled → Result (List Spelled) FormFault
within most [] = Err WrongMembers
within most (first ∷ others) = if nat_lt most (length (first ∷ others)) then Err TooManySignatures else Ok (first ∷ others)

unfoldable pub general : ℕ → Members → Result SpelledToken FormFault
general most members = do
  payload ← some_or WrongMembers (text_at (codes "payload") members)
  list ← some_or WrongMembers (list_at (codes "signatures") members)
  elements ← each spelled_element 0 list
  signatures ← within most elements
  Ok (record { form = General; payload = payload; signatures = signatures })

unfoldable pub json_of : ℕ → Members → Result SpelledToken FormFault
json_of most members =
    if has (codes "ciphertext") members then Err Encrypted
    else if has (codes "signature") members then (if has (codes "signatures") members then Err WrongMembers else flattened members)
    else general most members

abbrev pub read_as : Result Members TextFault → Result Members FormFault
read_as (Ok members) = Ok members
read_as (Err TextNameTwice) = Err NameTwice
read_as (Err _) = Err Json

-- ---- one signature, number i

abbrev may_be_empty : Form → List ℕ → Bool
may_be_empty Compact text = false
may_be_empty _ [] = true
may_be_empty _ (octet ∷ rest) = false

-- the protected header; in JSON form the empty text has the empty one
unfoldable pub protected_of : Form → ℕ → List ℕ → Result Members FormFault
protected_of form number text =
    if may_be_empty form text then Ok no_members
    else (or_fault (Base64 (Protected number)) (spelled text) >>= λ octets. or_fault (Header number) (object_of octets))

abbrev pub unprotected_of : ℕ → Option (Option Members) → Result (Option Members) FormFault
unprotected_of number None = Ok None
unprotected_of number (Some None) = Err (UnprotectedKind number)
unprotected_of number (Some (Some header)) = Ok (Some header)

-- some name is in both headers
abbrev pub overlap : Members → Option Members → Bool
overlap protected None = false
overlap protected (Some unprotected) = list_any (λ name. has name protected) (member_names unprotected)

unfoldable pub signature_of : Form → ℕ → Spelled → Result SignatureParts FormFault
signature_of form number texts = do
  protected ← protected_of form number texts.protected
  unprotected ← unprotected_of number texts.header
  octets ← if overlap protected unprotected then Err (NamesOverlap number) else or_fault (Base64 (Signature number)) (spelled texts.signature)
  Ok (record { protected_text = texts.protected; protected = protected; unprotected = unprotected; octets = octets })

unfoldable pub signed_of : SpelledToken → Result Token FormFault
signed_of token = do
  payload ← or_fault (Base64 Payload) (spelled token.payload)
  signatures ← each (signature_of token.form) 0 token.signatures
  Ok (record { form = token.form; payload_text = token.payload; payload = payload; signatures = signatures })

-- ---- the whole

-- the first octet that isn't JSON white space (RFC 8259, section 2) is '{'
abbrev pub opens_object : List ℕ → Bool
opens_object octets = option_map_or (λ octet. octet == 123) (find (λ octet. not (octet == 9 || octet == 10 || octet == 13 || octet == 32)) octets) false

unfoldable pub spelled_token : ℕ → List ℕ → Result SpelledToken FormFault
spelled_token most octets = if opens_object octets then (read_as (object_of octets) >>= json_of most) else compact octets

-- the signed token with at most so many signatures that octets are, or the first cause why they are none
unfoldable pub form_of : ℕ → List ℕ → Result Token FormFault
form_of most [] = Err Empty
form_of most (octet ∷ rest) = spelled_token most (octet ∷ rest) >>= signed_of

-- ---- Cited by contracts of private functions alone

-- the token in JSON form that an object is, with at most so many signatures
abbrev pub token_in : ℕ → Members → Result Token FormFault
token_in most members = json_of most members >>= signed_of
