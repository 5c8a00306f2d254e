-- A key and an index as contracts see them.
use Rattle.std.specs.Prelude.{◌≡◌, ℕ, List, [], ◌∷◌, ◌++◌, Bool, if◌then◌else◌, option_map, map, string_bytes, Vec, String}
use Rattle.std.specs.Global.{Global}
use Rattle.std.specs.Option.{option_map_or}
use Rattle.std.specs.BTreeMap.{BTreeMap, get_by_text}
use Rattle.jwt_keys.specs.Keys.{KeyParts, has_kid, has_thumbprint}
use Rattle.jwt_keys.specs.Numbers.{numbers}
use Rattle.jwt_keys.specs.Materials.{material_octets}
use Rattle.jwt_keys.specs.declared.key.Key.{Key}
use Rattle.jwt_keys.specs.declared.index.Index.{Index}

-- what contracts see of a key
abbrev pub key_parts : Key → KeyParts
key_parts k = record {
  octets = material_octets k.material;
  kid = option_map string_bytes k.kid;
  alg = option_map string_bytes k.alg;
  key_use = option_map string_bytes k.key_use;
  key_ops = option_map (λ v. map string_bytes v.items) k.key_ops;
  thumbprint = string_bytes k.thumbprint;
  place = k.place;
}

abbrev pub Groups : Type 0
Groups = BTreeMap (String Global) (Vec ℕ Global)

-- the numbers that stand under a name
abbrev pub group : Groups → List ℕ → List ℕ
group m q = option_map_or (λ v. v.items) (get_by_text m q) []

-- each name has the numbers of the keys with that `kid`, and of those without `kid` and with that thumbprint
pub record IsIndex (index : Index) (keys : List Key) : Type 0 where
  pub kids : (q : List ℕ) → group index.by_kid q ≡ numbers (has_kid q) 0 (map key_parts keys)
  pub thumbprints : (q : List ℕ) → group index.by_thumbprint q ≡ numbers (has_thumbprint q) 0 (map key_parts keys)

-- ---- Cited by contracts of private functions alone

-- the numbers of a name with one more, where it has that too
abbrev pub added : Bool → ℕ → List ℕ → List ℕ
added has n ns = if has then ns ++ n ∷ [] else ns
