-- Rows, tables, faults and answers as contracts see them.
use Rattle.std.specs.Prelude.{ℕ, List, map, Result, Ok, Err}
use Rattle.jwt_jwk.specs.declared.fault.JwkFault.{JwkFault}
use Rattle.jwt_jwk.specs.declared.fault.JwkFault.TheVariants as jwk
use Rattle.jwt_keys.specs.declared.fault.KeysFault.{KeysFault}
use Rattle.jwt_keys.specs.declared.fault.KeysFault.TheVariants as keys
use Rattle.jwt_document.specs.declared.fault.ServiceFault.{ServiceFault}
use Rattle.jwt_document.specs.declared.fault.ServiceFault.TheVariants as fault
use Rattle.jwt_document.specs.declared.rows.Kind.{Kind as RustKind}
use Rattle.jwt_document.specs.declared.rows.Kind.TheVariants as kind
use Rattle.jwt_document.specs.declared.rows.Absent.{Absent as RustAbsent}
use Rattle.jwt_document.specs.declared.rows.Absent.TheVariants as absent
use Rattle.jwt_document.specs.declared.rows.Row.{Row as RustRow}
use Rattle.jwt_document.specs.declared.rows.Within.{Within}
use Rattle.jwt_document.specs.declared.closed.Found.{Found}
use Rattle.jwt_document.specs.declared.closed.Ill.{Ill as RustIll}
use Rattle.jwt_document.specs.declared.closed.Wrong.{Wrong as Told}
use Rattle.jwt_document.specs.Rows.{Kind, flag, given, whole, text, texts, word, an_object, items, Absent, refused, nothing, number, said, listed, Row, Table}
use Rattle.jwt_document.specs.Tables.{Fault, Ill, Wrong}

abbrev pub kind_view : RustKind → Kind
kind_view kind.Flag = flag
kind_view kind.Given = given
kind_view (kind.Whole least most) = whole least most
kind_view (kind.Text f least most) = text f least most
kind_view (kind.Texts f least most) = texts f least most
kind_view (kind.Word words) = word (map (λ w. w.now) words.now)
kind_view kind.Object = an_object
kind_view (kind.List most) = items most

abbrev pub absent_view : RustAbsent → Absent
absent_view absent.Refused = refused
absent_view absent.Nothing = nothing
absent_view (absent.Number n) = number n
absent_view (absent.Said t) = said t.now
absent_view (absent.Listed ts) = listed (map (λ t. t.now) ts.now)

abbrev pub row_view : RustRow → Row
row_view row = record { name = row.name.now; kind = kind_view row.kind; absent = absent_view row.absent }

abbrev pub table_view : Within → List RustRow → Table
table_view within rows = record { within = within; rows = map row_view rows }

abbrev pub found : Found → Fault
found f = record { cause = f.cause; within = f.within; name = f.name.now; element = f.element }

abbrev pub ill : RustIll → Ill
ill i = record { cause = i.cause; element = i.element }

abbrev pub wrong : Told → Wrong
wrong w = record { cause = w.cause; name = w.name.now; element = w.element }

-- the answer, with its value as contracts see it
abbrev pub seen : {A B F : Type 0} → (A → B) → Result A F → Result B F
seen view (Ok x) = Ok (view x)
seen view (Err f) = Err f

-- the fault of a text in PEM, and that of the key set of its keys, with the number of its entry
abbrev pub pem_fault : ℕ → JwkFault → ServiceFault
pem_fault n jwk.OutOfMemory = fault.OutOfMemory
pem_fault n f = fault.Pem n f

abbrev pub set_fault : ℕ → KeysFault → ServiceFault
set_fault n keys.OutOfMemory = fault.OutOfMemory
set_fault n f = fault.Keys n f
