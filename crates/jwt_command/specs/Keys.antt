-- The status of `jwt keys`, and its answer to a set that is refused. Its other text is held by rows.
use Rattle.std.specs.Prelude.{◌≡◌, ℕ, Bool, true, false, List, Result, Ok, Err}
use Rattle.jwt_keys.specs.KeySets.{KeyList, key_set_of}
use Rattle.jwt_keys.specs.declared.fault.KeysFault.{KeysFault}
use Rattle.jwt_output.specs.Printed.{Answer}
use Rattle.jwt_output.specs.Refused.{printed_keys_fault, printed_read_fault}
use Rattle.jwt_settings.specs.declared.printing.Printing.{Printing}

abbrev pub IsListedSet : Printing → Result KeyList KeysFault → Answer → Type 0
IsListedSet printing (Ok set) a = a.status ≡ 0
IsListedSet printing (Err fault) a = a ≡ printed_keys_fault printing fault

-- of an input, by a reader that has failed or not
abbrev pub IsListed : Printing → Bool → List ℕ → Answer → Type 0
IsListed printing true x a = a ≡ printed_read_fault printing
IsListed printing false x a = IsListedSet printing (key_set_of x) a
