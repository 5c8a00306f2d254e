-- The documents of a command: a line of the input each, or what a file holds.
use Rattle.std.specs.Prelude.{◌≡◌, ◌<◌, ℕ, Bool, true, false, List, [], Option, Some, None, length, nat_lt, if◌then◌else◌}
use Rattle.jwt_text.specs.Intake.{TakesAtMost}
use Rattle.jwt_command.specs.TakenLines.{after_line, first_line, line_most}
use Rattle.jwt_command.specs.declared.documents.TakenDocument.{TakenDocument}
use Rattle.jwt_command.specs.declared.documents.TakenDocument.TheVariants.{Input, Line, Held as InHand}
use Rattle.jwt_command.specs.declared.input.line.LineFault.{LineFault}
use Rattle.jwt_command.specs.declared.input.line.LineFault.TheVariants.{OutOfMemory, Read, TooLong}

-- ---- what stands where

-- a document: in hand, or the first line of the input
abbrev pub document : Option (List ℕ) → List ℕ → List ℕ
document (Some octets) x = octets
document None x = first_line x

-- what of the input is behind a document
abbrev pub behind : Option (List ℕ) → List ℕ → List ℕ
behind (Some octets) x = x
behind None x = after_line x

-- the last document: in hand, or all of the input
abbrev pub last_document : Option (List ℕ) → List ℕ → List ℕ
last_document (Some octets) x = octets
last_document None x = x

-- ---- what is taken of the input

-- for a document: nothing where it is in hand
abbrev pub document_most : ℕ → Option (List ℕ) → List ℕ → ℕ
document_most limit (Some octets) x = 0
document_most limit None x = line_most limit x

-- for the last document
abbrev pub last_most : ℕ → Option (List ℕ) → ℕ
last_most most (Some octets) = 0
last_most most None = most

-- ---- the code's own values as contracts see them

-- the octets of a document
abbrev pub document_octets : TakenDocument → List ℕ
document_octets (Line v) = v.items
document_octets (InHand octets) = octets.now
document_octets (Input intake) = intake.octets

-- ---- Cited by contracts of private functions alone

-- of a line all; nothing of one that is longer than the limit
abbrev pub kept_line : ℕ → List ℕ → List ℕ
kept_line limit octets = if nat_lt limit (length octets) then [] else octets

-- of a document: what is in hand, or what is held of the first line of the input
abbrev pub read_document : ℕ → Option (List ℕ) → List ℕ → List ℕ
read_document limit (Some octets) x = octets
read_document limit None x = kept_line limit (first_line x)

-- the document, and what follows it is still to come
pub record TakesDocument (limit : ℕ) (held : Option (List ℕ)) (x octets : List ℕ) (rest : Option (List ℕ)) : Type 0 where
  pub octets_are : octets ≡ document held x
  pub read : octets ≡ read_document limit held x
  pub unread : rest ≡ Some (behind held x)
  pub taken : TakesAtMost (document_most limit held x) x rest

-- a line that is too long; or a read failed; or an allocation was refused
abbrev pub DocumentFails : ℕ → Option (List ℕ) → Bool → List ℕ → LineFault → Type 0
DocumentFails limit held failed x TooLong = (limit < length (document held x)) × (failed ≡ false) × (read_document limit held x ≡ [])
DocumentFails limit held failed x Read = failed ≡ true
DocumentFails limit held failed x OutOfMemory = Unit {0}
