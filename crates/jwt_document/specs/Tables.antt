-- The tables of members, and the first fault of an object by them.
use Rattle.std.specs.Prelude.{ℕ, ℤ, pos, negsuc, ◌+◌, List, [], ◌∷◌, Bool, true, false, not, ◌&&◌, nat_le, ◌==◌, if◌then◌else◌, Option, Some, None, is_some, option_map, option_and_then, length, codes, unwrap_or}
use Rattle.std.specs.List.{list_any, list_all, find}
use Rattle.std.specs.Str.{bytes_eq}
use Rattle.std.specs.Option.{option_map_or, option_or}
use Rattle.jwt_mac.specs.Algorithm.{alg_named, is_hmac_alg}
use Rattle.serde_json.specs.Data.{Data, Members}
use Rattle.serde_json.specs.Find.{as_str}
use Rattle.jwt_text.specs.Members.{has, text_at, whole_at, flag_at, list_at, object_at, member_names}
use Rattle.jwt_request.specs.urls.Urls.{url_where}
use Rattle.jwt_policy.specs.Texts.{is_among}
use Rattle.jwt_document.specs.declared.rows.Form.{Form}
use Rattle.jwt_document.specs.declared.rows.Form.TheVariants as form
use Rattle.jwt_document.specs.Rows.{Kind, flag, given, whole, text, texts, word, an_object, items, Absent, refused, number, Row, path, Table}
use Rattle.jwt_document.specs.declared.rows.Within.{Within}
use Rattle.jwt_document.specs.declared.rows.Cause.{Cause}
use Rattle.jwt_document.specs.declared.rows.Cause.TheVariants as cause

-- ---- values

-- a number from least to most
abbrev pub between : ℕ → ℕ → ℤ → Bool
between least most (pos n) = nat_le least n && nat_le n most
between least most (negsuc n) = false

-- printable ASCII, neither a quotation mark nor a backslash
abbrev pub is_printable : ℕ → Bool
is_printable c = nat_le 32 c && nat_le c 126 && not (c == 34) && not (c == 92)

-- a scheme, a host and a port or none, with nothing behind them (RFC 6454, section 6.2)
abbrev pub is_origin : List ℕ → Bool
is_origin t = option_map_or (λ url. url.target == length t) (url_where true t) false

-- the name of an algorithm for public keys
abbrev pub is_public : List ℕ → Bool
is_public t = option_map_or (λ alg. not (is_hmac_alg alg)) (alg_named t) false

-- a claim that a token of one's own is free to hand on
abbrev pub is_free : List ℕ → Bool
is_free t = not (is_among (codes "iss" ∷ codes "aud" ∷ codes "iat" ∷ codes "exp" ∷ []) t)

abbrev pub is_form : Form → List ℕ → Bool
is_form form.Any t = true
is_form form.Printable t = list_all is_printable t
is_form form.Origin t = is_origin t
is_form form.PublicAlg t = is_public t
is_form form.FreeClaim t = is_free t

-- a text of this form, of least to most octets
abbrev pub text_passes : Form → ℕ → ℕ → List ℕ → Bool
text_passes f least most t = nat_le least (length t) && nat_le (length t) most && is_form f t

-- a text of this form, not empty
abbrev pub is_element : Form → List ℕ → Bool
is_element f t = nat_le 1 (length t) && is_form f t

-- ---- a member

-- what is wrong: the cause, and where it is about an element of a list, which one
pub record Ill : Type 0 where
  pub cause : Cause
  pub element : Option ℕ

abbrev pub unless : Bool → Cause → Option Ill
unless passes cause = if passes then None else Some (record { cause = cause; element = None })

-- another kind, or a value that doesn't pass
abbrev pub unless_passes : {A : Type 0} → (A → Bool) → Option A → Option Ill
unless_passes test None = unless false cause.Kind
unless_passes test (Some x) = unless (test x) cause.Range

-- no text, or one that doesn't pass
abbrev pub element_cause : Form → Option (List ℕ) → Option Cause
element_cause f None = Some cause.Kind
element_cause f (Some t) = if is_element f t then None else Some cause.Range

-- the element of this number, where it is bad, else this
abbrev pub bad_or : ℕ → Option Cause → Option Ill → Option Ill
bad_or n (Some c) rest = Some (record { cause = c; element = Some n })
bad_or n None rest = rest

-- the first element that is bad, where the first of these has this number
abbrev pub first_bad : Form → ℕ → List Data → Option Ill
first_bad f n [] = None
first_bad f n (d ∷ ds) = bad_or n (element_cause f (as_str d)) (first_bad f (n + 1) ds)

abbrev pub texts_ill : Form → ℕ → ℕ → List Data → Option Ill
texts_ill f least most ds = if nat_le least (length ds) && nat_le (length ds) most then first_bad f 0 ds else unless false cause.Range

-- why a member that is there isn't of its kind
abbrev pub ill_in : Kind → List ℕ → Members → Option Ill
ill_in flag name ms = unless (is_some (flag_at name ms)) cause.Kind
ill_in given name ms = unless_passes (λ b. b) (flag_at name ms)
ill_in (whole least most) name ms = unless_passes (between least most) (whole_at name ms)
ill_in (text f least most) name ms = unless_passes (text_passes f least most) (text_at name ms)
ill_in (texts f least most) name ms = option_map_or (texts_ill f least most) (list_at name ms) (unless false cause.Kind)
ill_in (word words) name ms = unless_passes (is_among words) (text_at name ms)
ill_in an_object name ms = unless (is_some (object_at name ms)) cause.Kind
ill_in (items most) name ms = unless_passes (λ ds. nat_le (length ds) most) (list_at name ms)

abbrev pub absent_ill : Absent → Option Ill
absent_ill refused = unless false cause.Missing
absent_ill _ = None

abbrev pub row_ill : Members → Row → Option Ill
row_ill ms row = if has row.name ms then ill_in row.kind row.name ms else absent_ill row.absent

-- ---- an object

-- a cause, the name of the member, and which of its elements
pub record Wrong : Type 0 where
  pub cause : Cause
  pub name : List ℕ
  pub element : Option ℕ

abbrev pub is_known : List Row → List ℕ → Bool
is_known rows name = list_any (λ row. bytes_eq name row.name) rows

-- the first name, in ascending byte order, that no row has
abbrev pub unknown_in : List Row → Members → Option (List ℕ)
unknown_in rows ms = find (λ name. not (is_known rows name)) (member_names ms)

-- the first row whose member is refused
abbrev pub wrong_in : Members → List Row → Option Wrong
wrong_in ms [] = None
wrong_in ms (row ∷ rows) = elim (row_ill ms row) [ Some i ↦ Some (record { cause = i.cause; name = row.name; element = i.element }) | None ↦ wrong_in ms rows ]

abbrev pub unless_unknown : Option (List ℕ) → Option Wrong → Option Wrong
unless_unknown (Some name) wrong = Some (record { cause = cause.Unknown; name = name; element = None })
unless_unknown None wrong = wrong

-- an unknown name, else row by row
abbrev pub fault_in : List Row → Members → Option Wrong
fault_in rows ms = unless_unknown (unknown_in rows ms) (wrong_in ms rows)

-- ---- the whole

pub record Fault : Type 0 where
  pub cause : Cause
  pub within : Within
  pub name : List ℕ
  pub element : Option ℕ

-- the object to which names lead, each in the object of the one before, where it is there
abbrev pub object_behind : List (List ℕ) → Members → Option Members
object_behind [] ms = Some ms
object_behind (name ∷ names) ms = option_and_then (object_behind names) (object_at name ms)

abbrev pub object_within : Within → Members → Option Members
object_within within ms = object_behind (path within) ms

abbrev pub placed : Within → Wrong → Fault
placed w wrong = record { cause = wrong.cause; within = w; name = wrong.name; element = wrong.element }

abbrev pub table_fault : Members → Table → Option Fault
table_fault ms table = option_map (placed table.within) (option_and_then (fault_in table.rows) (object_within table.within ms))

-- the first fault, table by table
abbrev pub first_fault : Members → List Table → Option Fault
first_fault ms [] = None
first_fault ms (table ∷ tables) = elim (table_fault ms table) [ Some fault ↦ Some fault | None ↦ first_fault ms tables ]

-- ---- what a member that was read says, with what holds where it is absent

abbrev pub row_named : List ℕ → List Row → Option Row
row_named name rows = find (λ row. bytes_eq name row.name) rows

abbrev pub natural : ℤ → Option ℕ
natural (pos n) = Some n
natural (negsuc n) = None

abbrev pub default_number : Absent → Option ℕ
default_number (number n) = Some n
default_number _ = None

-- the number that is written, or its default, if any
abbrev pub number_of : Row → Members → Option ℕ
number_of row ms = option_or (option_and_then natural (whole_at row.name ms)) (default_number row.absent)

-- of the row of this name
abbrev pub number_at : List ℕ → List Row → Members → Option ℕ
number_at name rows ms = option_and_then (λ row. number_of row ms) (row_named name rows)

-- true is written
abbrev pub is_true_at : List ℕ → Members → Bool
is_true_at name ms = unwrap_or (flag_at name ms) false
