-- Private members in a key set document.
use Rattle.std.specs.Prelude.{ℕ, List, [], ◌∷◌, Bool, false, codes, unwrap_or, Result, Ok, Err}
use Rattle.std.specs.List.{list_any}
use Rattle.std.specs.Option.{option_map_or}
use Rattle.serde_json.specs.Data.{Data, Members}
use Rattle.serde_json.specs.Find.{as_object}
use Rattle.jwt_text.specs.Members.{has, list_at}
use Rattle.jwt_text.specs.ObjectText.{object_of}
use Rattle.jwt_text.specs.declared.fault.TextFault.{TextFault}

-- the members of private keys alone (RFC 7518, sections 6.2.2 and 6.3.2; RFC 8037, section 2)
abbrev pub private_names : List (List ℕ)
private_names = codes "d" ∷ codes "p" ∷ codes "q" ∷ codes "dp" ∷ codes "dq" ∷ codes "qi" ∷ codes "oth" ∷ []

abbrev pub has_private : Members → Bool
has_private members = list_any (λ name. has name members) private_names

-- an entry that is an object with one of them
abbrev pub is_private : Data → Bool
is_private entry = option_map_or has_private (as_object entry) false

abbrev pub entries_in : Result Members TextFault → List Data
entries_in (Ok members) = unwrap_or (list_at (codes "keys") members) []
entries_in (Err fault) = []

-- the entries of a document; none where it has no list `keys`
unfoldable pub entries_of : List ℕ → List Data
entries_of octets = entries_in (object_of octets)
