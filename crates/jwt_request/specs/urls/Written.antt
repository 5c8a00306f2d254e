-- What is written for the caller.
use Rattle.std.specs.Prelude.{◌≡◌, ◌<◌, ◌≤◌, ◌++◌, ℕ, List, length, drop, Result, Ok, Err, Option, Some, None}
use Rattle.jwt_request.specs.declared.urls.writing.Unwritten.{Unwritten}
use Rattle.jwt_request.specs.declared.urls.writing.Unwritten.TheVariants.{TooShort, Refused}

-- the text stands at the front, and what stood behind it still does; there is too little room for it; or there is no text. Nothing is written then
abbrev pub IsWritten : Option (List ℕ) → Result ℕ Unwritten → List ℕ → List ℕ → Type 0
IsWritten text (Ok size) old new = (it : List ℕ) × (text ≡ Some it) × (size ≡ length it) × (new ≡ it ++ drop (length it) old)
IsWritten text (Err TooShort) old new = (it : List ℕ) × (text ≡ Some it) × (length old < length it) × (new ≡ old)
IsWritten text (Err Refused) old new = (text ≡ None) × (new ≡ old)

-- ---- Cited by contracts of private functions alone

-- the text stands at the front, and what stood behind it still does; or there is too little room for it, and nothing is written
abbrev pub IsPut : List ℕ → Option ℕ → List ℕ → List ℕ → Type 0
IsPut text None old new = (length old < length text) × (new ≡ old)
IsPut text (Some size) old new = (size ≡ length text) × (size ≤ length old) × (new ≡ text ++ drop size old)
