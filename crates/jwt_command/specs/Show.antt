-- The status of `jwt show`. Its text is held by rows.
use Rattle.std.specs.Prelude.{◌≡◌, ℕ, Bool, true, false, List, length, nat_lt, if◌then◌else◌, Result, Ok, Err}
use Rattle.jwt_jws.specs.Forms.{form_of}
use Rattle.jwt_jws.specs.Token.{Token}
use Rattle.jwt_jws.specs.declared.fault.FormFault.{FormFault}
use Rattle.jwt_verify.specs.Verdict.{without_line_feed}
use Rattle.jwt_output.specs.Printed.{Answer}
use Rattle.jwt_output.specs.Refused.{printed_read_fault}
use Rattle.jwt_settings.specs.declared.printing.Printing.{Printing}

abbrev pub form_status : Result Token FormFault → ℕ
form_status (Ok t) = 0
form_status (Err f) = 1

-- of a token of at most so many octets, with one line feed behind it or none
abbrev pub show_status : ℕ → List ℕ → ℕ
show_status limit x = if nat_lt limit (length x) then 1 else form_status (form_of 32 (without_line_feed true x))

-- by a reader that has failed or not
abbrev pub IsShown : Printing → ℕ → Bool → List ℕ → Answer → Type 0
IsShown printing limit true x a = a ≡ printed_read_fault printing
IsShown printing limit false x a = a.status ≡ show_status limit x
