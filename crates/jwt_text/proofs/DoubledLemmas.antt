-- A doubled name is one that stands twice in one object.
use Rattle.std.proofs.Common.{◌≡◌, ◌↔◌, ℕ, Bool, true, false, List, [], ◌∷◌, Option, Some, None, Ok, Err, option_and_then, if◌then◌else◌, refl, sym, ap, ◌∙◌}
use Rattle.std.specs.Str.{is_utf8}
use Rattle.json.specs.Token.{Token}
use Rattle.json.specs.Lex.{tokens}
use Rattle.json.specs.Json.{Json, if_last, value}
use Rattle.json.specs.Strict.{HasUniqueKeys}
use Rattle.serde_json.specs.Data.{Data, object, Members}
use Rattle.serde_json.specs.Read.{max_depth, of_json}
use Rattle.jwt_text.specs.ObjectText.{colons, members_entries, reading, object_of}
use Rattle.jwt_text.specs.declared.fault.TextFault.TheVariants.{NameTwice}
use Rattle.jwt_text.proofs.ObjectTextLemmas.{object_is, name_twice_is}
use Rattle.jwt_text.specs.NamesWritten.{names_written, written}
use Rattle.jwt_text.proofs.WrittenColons.{colons-names}
use Rattle.jwt_text.proofs.EntriesLemmas.{kept}

last : (o : Option (Json × List Token)) (j : Json) → option_and_then (λ p. if_last p.0 p.1) o ≡ Some j → o ≡ Some (j, [])
last None j e = absurd cc
last (Some (i, [])) j e = let same : i ≡ j = cc in ap (λ k. Some (k, [])) same
last (Some (i, t ∷ ts)) j e = absurd cc

spelled_at : (b : Bool) (o : Option (Json × List Token)) (j : Json) → (if b then option_and_then (λ p. if_last p.0 p.1) o else None) ≡ Some j → o ≡ Some (j, [])
spelled_at true o j e = last o j e
spelled_at false o j e = absurd cc

-- the colons of a text that writes a value
colons_written : (t : List ℕ) (j : Json) → written t ≡ Some j → colons t ≡ names_written j
colons_written t j e = colons-names t max_depth j (spelled_at (is_utf8 t) (value max_depth (tokens t)) j e)

read_at : (b : Bool) (o : Option Json) → (if b then option_and_then of_json o else None) ≡ option_and_then of_json (if b then o else None)
read_at true o = refl
read_at false o = refl

reading_is : (t : List ℕ) → reading t ≡ option_and_then of_json (written t)
reading_is t = read_at (is_utf8 t) (option_and_then (λ p. if_last p.0 p.1) (value max_depth (tokens t)))

found : (o : Option Json) (d : Data) → option_and_then of_json o ≡ Some d → (j : Json) × (o ≡ Some j) × (of_json j ≡ Some d)
found None d e = absurd cc
found (Some j) d e = (j, refl, e)

-- as many colons as entries, exactly where no name is doubled
module _ (t : List ℕ) (j : Json) (ms : Members) (w : written t ≡ Some j) (r : of_json j ≡ Some (object ms)) where
  unique : colons t ≡ members_entries ms → HasUniqueKeys j
  unique e = (kept j (object ms) r).1.0 (sym e ∙ colons_written t j w)

  counted : HasUniqueKeys j → colons t ≡ members_entries ms
  counted u = colons_written t j w ∙ sym ((kept j (object ms) r).1.1 u)

  is_read : reading t ≡ Some (object ms)
  is_read = reading_is t ∙ ap (option_and_then of_json) w ∙ r

pub object_iff : (t : List ℕ) (ms : Members) → (object_of t ≡ Ok ms) ↔ ((j : Json) × (written t ≡ Some j) × (of_json j ≡ Some (object ms)) × HasUniqueKeys j)
object_iff t ms = (
  λ e.
      let text = (object_is t ms).0 e in
      let j = found (written t) (object ms) (sym (reading_is t) ∙ text.0) in
      (j.0, j.1, j.2, unique t j.0 ms j.1 j.2 text.1),
  λ h. (object_is t ms).1 (is_read t h.0 ms h.1 h.2, counted t h.0 ms h.1 h.2 h.3),
)

pub name_twice_iff : (t : List ℕ) → (object_of t ≡ Err NameTwice) ↔ ((j : Json) × (ms : Members) × (written t ≡ Some j) × (of_json j ≡ Some (object ms)) × ¬ HasUniqueKeys j)
name_twice_iff t = (
  λ e.
      let text = (name_twice_is t).0 e in
      let j = found (written t) (object text.0) (sym (reading_is t) ∙ text.1) in
      (j.0, text.0, j.1, j.2, λ u. text.2 (counted t j.0 text.0 j.1 j.2 u)),
  λ h. (name_twice_is t).1 (h.1, is_read t h.0 h.1 h.2 h.3, λ e. h.4 (unique t h.0 h.1 h.2 h.3 e)),
)
