-- Names that stand twice in `crit` (RFC 7515, section 4.1.11).
use Rattle.std.specs.Prelude.{ℕ, List, [], ◌∷◌, Bool, false, ◌||◌, codes}
use Rattle.std.specs.Prelude.{is_some}
use Rattle.std.specs.List.{list_any}
use Rattle.std.specs.Option.{option_map_or}
use Rattle.std.specs.Borrow.{Bor}
use Rattle.std.specs.BTreeMap.{BTreeMap, get_by}
use Rattle.std.specs.Cmp.Lexicographic.{slice_cmp}
use Rattle.std.specs.Ordering.{nat_cmp}
use Rattle.std.specs.Str.{bytes_eq}
use Rattle.serde_json.specs.Data.{Data, Members}
use Rattle.serde_json.specs.Find.{as_str}
use Rattle.jwt_text.specs.Members.{list_at}

-- some text stands twice in the list
abbrev pub repeats_text : List Data → Bool
repeats_text [] = false
repeats_text (first ∷ rest) = option_map_or (λ text. list_any (λ e. option_map_or (λ t. bytes_eq t text) (as_str e) false) rest) (as_str first) false || repeats_text rest

-- some name stands twice in the list `crit` of the header
abbrev pub crit_repeats : Members → Bool
crit_repeats header = option_map_or repeats_text (list_at (codes "crit") header) false

-- ---- Cited by contracts of private functions alone

-- a text is among the keys of a map
abbrev pub has_text : {X : Type 0} → BTreeMap (Bor (List ℕ)) X → List ℕ → Bool
has_text seen text = is_some (get_by (λ key. slice_cmp nat_cmp text key.now) seen)
