-- The key set that octets spell (RFC 7517, section 5).
use Rattle.std.specs.Prelude.{ℕ, suc, List, [], ◌∷◌, ◌++◌, length, Option, Some, None, Result, Ok, Err, if◌then◌else◌, nat_lt, codes, map}
use Rattle.serde_json.specs.Data.{Data, Members}
use Rattle.serde_json.specs.Find.{as_object}
use Rattle.jwt_text.specs.Members.{list_at}
use Rattle.jwt_text.specs.ObjectText.{object_of}
use Rattle.jwt_text.specs.declared.fault.TextFault.{TextFault}
use Rattle.jwt_text.specs.declared.limits.TheConstants.{LONGEST_KEY_SET}
use Rattle.jwt_text.specs.declared.fault.TextFault.TheVariants.{NotObject, NameTwice as DoubledName}
use Rattle.jwt_keys.specs.Keys.{KeyParts}
use Rattle.jwt_keys.specs.Entries.{key_in, key_if, skip_if}
use Rattle.jwt_keys.specs.declared.skip.Skip.{Skip}
use Rattle.jwt_keys.specs.declared.fault.KeysFault.{KeysFault}
use Rattle.jwt_keys.specs.declared.fault.KeysFault.TheVariants.{Json, NotKeySet, NameTwice, TooManyKeys, TooLong}
use Rattle.jwt_keys.specs.declared.set.KeySet.{KeySet}
use Rattle.jwt_keys.specs.Views.{key_parts}

-- the readable keys, whose numbers are their places in this list, and the entries that were skipped
pub record KeyList : Type 0 where
  pub keys : List KeyParts
  pub skips : List Skip

-- the readable keys of the entries, the first of which stands at this place, in order
abbrev pub keys_from : ℕ → List Data → List KeyParts
keys_from place [] = []
keys_from place (d ∷ ds) = key_if (key_in place (as_object d)) ++ keys_from (suc place) ds

-- the other entries, each with its first reason
abbrev pub skips_from : ℕ → List Data → List Skip
skips_from place [] = []
skips_from place (d ∷ ds) = skip_if place (key_in place (as_object d)) ++ skips_from (suc place) ds

-- the entries of `keys` as keys and skips
abbrev pub key_list : List Data → KeyList
key_list ds = record { keys = keys_from 0 ds; skips = skips_from 0 ds }

abbrev pub set_of : Option (List Data) → Result KeyList KeysFault
set_of None = Err NotKeySet
set_of (Some ds) = if nat_lt 1024 (length ds) then Err TooManyKeys else Ok (key_list ds)

-- the key set of members, or the first cause why there is none
abbrev pub set_in_members : Members → Result KeyList KeysFault
set_in_members ms = set_of (list_at (codes "keys") ms)

abbrev pub set_in : Result Members TextFault → Result KeyList KeysFault
set_in (Ok ms) = set_in_members ms
set_in (Err NotObject) = Err NotKeySet
set_in (Err DoubledName) = Err NameTwice
set_in (Err _) = Err Json

-- the key set of a document, or the first cause why there is none
unfoldable pub key_set_of : List ℕ → Result KeyList KeysFault
key_set_of z = if nat_lt LONGEST_KEY_SET (length z) then Err TooLong else set_in (object_of z)

-- what contracts see of a key set
abbrev pub key_set : KeySet → KeyList
key_set s = record { keys = map key_parts s.keys.items; skips = s.skipped.items }
