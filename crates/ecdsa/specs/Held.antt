-- The keys that are prepared.
use Rattle.std.specs.Prelude.{ℕ, Bool, true, false, ◌&&◌, List, [], ◌∷◌, map}
use Rattle.std.specs.Str.{bytes_eq}
use Rattle.std.specs.List.{list_any}
use Rattle.ecdsa.specs.declared.held.PreparedKey.{PreparedKey}
use Rattle.ecdsa.specs.declared.held.PreparedKeys.{PreparedKeys}

-- the octets of a key's coordinates
pub record HeldKey : Type 0 where
  pub x : List ℕ
  pub y : List ℕ

abbrev pub held_key : {N : ℕ} → PreparedKey N → HeldKey
held_key key = record { x = key.x.items; y = key.y.items }

-- the prepared keys, in the order in which they were prepared
abbrev pub held : {N : ℕ} → PreparedKeys N → List HeldKey
held keys = map held_key keys.keys.items

-- whether a key has these coordinates
abbrev pub has_coordinates : List ℕ → List ℕ → HeldKey → Bool
has_coordinates x y key = bytes_eq key.x x && bytes_eq key.y y

-- whether the key with these coordinates is among them
abbrev pub is_held : List ℕ → List ℕ → List HeldKey → Bool
is_held x y keys = list_any (has_coordinates x y) keys

-- one more key, where it was added
abbrev pub with_key : Bool → List ℕ → List ℕ → List HeldKey
with_key true x y = record { x = x; y = y } ∷ []
with_key false x y = []
