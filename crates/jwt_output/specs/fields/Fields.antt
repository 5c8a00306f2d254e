-- A field of an answer, and how a list of fields is printed: in a line, or as a JSON object.
use Rattle.std.specs.Prelude.{ℕ, List, [], ◌∷◌, ◌++◌, map, length, Option, Some, None, codes}
use Rattle.std.specs.Fmt.{decimal}
use Rattle.std.specs.List.{flat_map}
use Rattle.std.specs.Option.{option_map_or}
use Rattle.json.specs.Json.{Json, number, string, array}
use Rattle.json.specs.Print.{quoted as quoted_text}
use Rattle.jwt_verify.specs.declared.report.SigState.{SigState}
use Rattle.jwt_verify.specs.declared.report.Try.{Try}
use Rattle.jwt_output.specs.Json.{Named, items_in, json_line, json_value}
use Rattle.jwt_output.specs.Printed.{Answer}
use Rattle.jwt_output.specs.verdicts.VerdictsJson.{state_json, try_json}
use Rattle.jwt_settings.specs.declared.printing.Printing.{Printing}
use Rattle.jwt_settings.specs.declared.printing.Printing.TheVariants as printing
use Rattle.jwt_output.specs.declared.fields.field.Field.{Field as CodeField}
use Rattle.jwt_output.specs.declared.fields.field.FieldName.{FieldName}
use Rattle.jwt_output.specs.declared.fields.field.FieldName.TheVariants as name
use Rattle.jwt_output.specs.declared.fields.field.FieldValue.{FieldValue}
use Rattle.jwt_output.specs.declared.fields.field.FieldValue.TheVariants as code

pub data Value : Type 0 where
  -- a word that a line has as it is
  Word : List ℕ → Value
  -- a word in a line, and what JSON has in its place
  Words : (line json : List ℕ) → Value
  -- a text of somebody else's
  Text : List ℕ → Value
  -- a text that no line has
  Hint : List ℕ → Value
  Count : ℕ → Value
  -- the JSON value that octets are
  Octets : List ℕ → Value
  States : List SigState → Value
  Tries : List Try → Value

pub record Field : Type 0 where
  pub name : FieldName
  pub value : Value

abbrev pub field : FieldName → Value → Field
field name value = record { name = name; value = value }

abbrev pub word : FieldName → List ℕ → Field
word name w = field name (Word w)

abbrev pub count : FieldName → ℕ → Field
count name n = field name (Count n)

-- what stands before a value in a line, and its name in JSON
abbrev pub names : FieldName → List ℕ × List ℕ
names name.Verdict = (codes "", codes "verdict")
names name.Document = (codes " ", codes "document")
names name.Fault = (codes " ", codes "fault")
names name.Denial = (codes " ", codes "denial")
names name.Part = (codes " part=", codes "part")
names name.At = (codes " at=", codes "at")
names name.Member = (codes " member=", codes "member")
names name.Nearest = (codes "", codes "nearest")
names name.Scope = (codes " scope=", codes "scope")
names name.Claim = (codes " claim=", codes "claim")
names name.File = (codes " file=", codes "file")
names name.Remedy = (codes " remedy=", codes "remedy")
names name.Signature = (codes " sig=", codes "signature")
names name.Key = (codes " key=", codes "key")
names name.Claims = (codes "", codes "claims")
names name.Signatures = (codes "", codes "signatures")
names name.Tries = (codes " tries=", codes "tries")
names name.Work = (codes " work=", codes "work")
names name.Name = (codes " ", codes "name")
names name.Issuer = (codes " issuer=", codes "issuer")
names name.Entry = (codes " entry=", codes "entry")
names name.Place = (codes " place=", codes "place")
names name.Kty = (codes " kty=", codes "kty")
names name.Kid = (codes " kid=", codes "kid")
names name.Alg = (codes " alg=", codes "alg")
names name.Size = (codes " size=", codes "size")
names name.Thumbprint = (codes " thumbprint=", codes "thumbprint")
names name.Reason = (codes " ", codes "reason")
names name.Sentence = (codes ": ", codes "reason")
names name.Given = (codes " ", codes "given")
names name.Value = (codes " ", codes "value")
names name.Served = (codes " ", codes "alg")
names name.Keys = (codes " keys=", codes "keys")
names name.Calls = (codes " calls=", codes "calls")
names name.WorkCeiling = (codes " work=", codes "work_ceiling")
names name.CallsCeiling = (codes " max_calls=", codes "calls_ceiling")
names name.Protected = (codes "", codes "protected")
names name.Header = (codes "", codes "header")
names name.Octets = (codes " octets=", codes "octets")

-- ---- in a line

-- a text of somebody else's is quoted; of tries, their number
abbrev pub in_line : Value → Option (List ℕ)
in_line (Word w) = Some w
in_line (Words w j) = Some w
in_line (Text t) = Some (quoted_text t)
in_line (Count n) = Some (decimal n)
in_line (Tries es) = Some (decimal (length es))
in_line value = None

abbrev pub line_part : Field → List ℕ
line_part f = option_map_or (λ v. (names f.name).0 ++ v) (in_line f.value) []

abbrev pub fields_line : List Field → List ℕ
fields_line fields = flat_map line_part fields ++ 10 ∷ []

-- ---- in JSON

abbrev pub in_json : Value → Json
in_json (Word w) = string w
in_json (Words w j) = string j
in_json (Text t) = string t
in_json (Hint t) = string t
in_json (Count n) = number (decimal n)
in_json (Octets t) = json_value t
in_json (States sts) = array (items_in (map state_json sts))
in_json (Tries es) = array (items_in (map try_json es))

abbrev pub json_member : Field → Named
json_member f = ((names f.name).1, in_json f.value)

abbrev pub fields_json : List Field → List ℕ
fields_json fields = json_line (map json_member fields)

-- ---- either

abbrev pub fields_text : Printing → List Field → List ℕ
fields_text printing.Json fields = fields_json fields
fields_text printing.Lines fields = fields_line fields

abbrev pub printed : Printing → List Field → ℕ → Answer
printed printing fields status = record { text = fields_text printing fields; status = status }

-- ---- the code's own values as contracts see them

abbrev pub value_view : FieldValue → Value
value_view (code.Word w) = Word w.now
value_view (code.Words w j) = Words w.now j.now
value_view (code.Text t) = Text t.now
value_view (code.Hint t) = Hint t.now
value_view (code.Count n) = Count n
value_view (code.Json t) = Octets t.now
value_view (code.States sts) = States sts.now
value_view (code.Tries es) = Tries es.now

-- ---- Cited by contracts of private functions alone

abbrev pub field_view : CodeField → Field
field_view f = record { name = f.name; value = value_view f.value }
