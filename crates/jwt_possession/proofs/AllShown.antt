-- What no row of the table refuses is shown.
use Rattle.std.proofs.Common.{◌≡◌, ◌⊎◌, ℕ, Bool, true, false, not, ◌&&◌, ◌||◌, List, [], codes, Option, Some, None, is_some, option_map, refl, sym, ap, ◌∙◌, subst, inl, inr}
use Rattle.std.specs.Option.{option_map_or}
use Rattle.std.specs.List.{list_all}
use Rattle.std.specs.Str.{bytes_eq}
use Rattle.std.specs.Ordering.{nat_cmp, match_ordering}
use Rattle.std.specs.declared.cmp.Ordering.{Ordering}
use Rattle.std.specs.declared.cmp.Ordering.TheVariants.{Less, Equal, Greater}
use Rattle.std.specs.Cmp.Lexicographic.{slice_cmp}
use Rattle.std.proofs.lemmas.Bool.{false≢true, true≢false}
use Rattle.std.proofs.lemmas.Map.Lookups.{exact_bytes}
use Rattle.std.proofs.lemmas.Slice.Eq.{bytes_eq-Decides}
use Rattle.serde_json.specs.Data.{Data, Members, no_members, member}
use Rattle.serde_json.specs.Find.{get_member}
use Rattle.jwt_text.specs.Members.{has, object_at, member_names}
use Rattle.jwt_text.specs.Rows.{first_row}
use Rattle.jwt_policy.specs.Texts.{some_passes}
use Rattle.jwt_possession.specs.Bindings.{is_bound, bound_key, bound_certificate, digest_text}
use Rattle.jwt_possession.specs.Shown.{IsShown, HasShownKey, HasShownCertificate, is_known_way, has_none, are_known_ways, is_known, binds, is_key_shown, is_certificate_shown, binding_rows}
use Rattle.jwt_possession.specs.declared.binding.Shown.{Shown}
use Rattle.jwt_possession.proofs.Policies.{fails_each, holds_of_not}
use Rattle.jwt_possession.proofs.NormalPaths.{first, second}

known_at : (o : Ordering) (name l : List ℕ) (e : Data) (ms : Members) → slice_cmp nat_cmp name l ≡ o → is_known_way l ≡ true
    → (has name ms ≡ true → is_known_way name ≡ true) → is_some (match_ordering o (get_member name ms) (Some e) (get_member name ms)) ≡ true → is_known_way name ≡ true
known_at Less name l e ms is known more there = more there
known_at Equal name l e ms is known more there = ap is_known_way (exact_bytes name l is) ∙ known
known_at Greater name l e ms is known more there = more there

pub known_name : (name : List ℕ) (ms : Members) → list_all is_known_way (member_names ms) ≡ true → has name ms ≡ true → is_known_way name ≡ true
known_name name no_members all there = absurd (false≢true there)
known_name name (member l e ms) all there =
    known_at (slice_cmp nat_cmp name l) name l e ms refl (first (is_known_way l) (list_all is_known_way (member_names ms)) all)
    (known_name name ms (second (is_known_way l) (list_all is_known_way (member_names ms)) all)) there

either : (a b : Bool) → (a || b) ≡ true → (a ≡ true) ⊎ (b ≡ true)
either true b h = inl refl
either false b h = inr h

one_of : (name : List ℕ) → is_known_way name ≡ true → (name ≡ codes "jkt") ⊎ (name ≡ codes "x5t#S256")
one_of name h = elim (either (bytes_eq name (codes "jkt")) (bytes_eq name (codes "x5t#S256")) h) [
  | inl is ↦ inl ((bytes_eq-Decides name (codes "jkt")).0 is)
  | inr is ↦ inr ((bytes_eq-Decides name (codes "x5t#S256")).0 is)
]

shown_where : (a b : Bool) → (a && not b) ≡ false → a ≡ true → b ≡ true
shown_where a true h is = refl
shown_where true false h is = absurd (true≢false h)
shown_where false false h is = absurd (false≢true is)

text_shown : {X : Type 0} (of : X → List ℕ) (o : Option X) (bound : Option (List ℕ)) → option_map_or (λ x. some_passes (λ text. bytes_eq text (of x)) bound) o false ≡ true
    → (text : List ℕ) × (bound ≡ Some text) × (option_map of o ≡ Some text)
text_shown of None bound h = absurd (false≢true h)
text_shown of (Some x) None h = absurd (false≢true h)
text_shown of (Some x) (Some text) h = (text, refl, ap Some (sym ((bytes_eq-Decides text (of x)).0 h)))

not_empty : (names : List (List ℕ)) → not (has_none names) ≡ true → names ≡ [] → ⊥
not_empty names h is = false≢true (sym (ap (λ n. not (has_none n)) is) ∙ h)

module _ (claims : Members) (shown : Shown) (none : first_row (binding_rows claims shown) ≡ None) where
  known : is_known claims ≡ true
  known = holds_of_not (is_known claims) (fails_each (binding_rows claims shown) none).0

  binds_where : (name : List ℕ) (ways : Members) → object_at (codes "cnf") claims ≡ Some ways → has name ways ≡ true → binds name claims ≡ true
  binds_where name ways is there = ap (λ o. option_map_or (has name) o false) is ∙ there

  key_shown : (ways : Members) → object_at (codes "cnf") claims ≡ Some ways → has (codes "jkt") ways ≡ true → (text : List ℕ) × (bound_key claims ≡ Some text) × HasShownKey shown text
  key_shown ways is there =
      text_shown (λ key. key.now) shown.key (bound_key claims)
      (shown_where (binds (codes "jkt") claims) (is_key_shown claims shown) (fails_each (binding_rows claims shown) none).1.0 (binds_where (codes "jkt") ways is there))

  certificate_shown : (ways : Members) → object_at (codes "cnf") claims ≡ Some ways → has (codes "x5t#S256") ways ≡ true
      → (text : List ℕ) × (bound_certificate claims ≡ Some text) × HasShownCertificate shown text
  certificate_shown ways is there =
      text_shown (λ der. digest_text der.now) shown.certificate (bound_certificate claims)
      (shown_where (binds (codes "x5t#S256") claims) (is_certificate_shown claims shown) (fails_each (binding_rows claims shown) none).1.1.0 (binds_where (codes "x5t#S256") ways is there))

  by_ways : (o : Option Members) → object_at (codes "cnf") claims ≡ o → option_map_or are_known_ways o false ≡ true → IsShown claims shown
  by_ways None is h = absurd (false≢true h)
  by_ways (Some ways) is h =
      let some = first (not (has_none (member_names ways))) (list_all is_known_way (member_names ways)) h in
      let all = second (not (has_none (member_names ways))) (list_all is_known_way (member_names ways)) h in
      inr (
        ways,
        is,
        not_empty (member_names ways) some,
        λ name there. elim (one_of name (known_name name ways all there)) [
          | inl key ↦ inl (key, key_shown ways is (subst (λ n. has n ways ≡ true) key there))
          | inr certificate ↦ inr (certificate, certificate_shown ways is (subst (λ n. has n ways ≡ true) certificate there))
        ],
      )

  by_bound : (b : Bool) → is_bound claims ≡ b → (not b || option_map_or are_known_ways (object_at (codes "cnf") claims) false) ≡ true → IsShown claims shown
  by_bound false is h = inl is
  by_bound true is h = by_ways (object_at (codes "cnf") claims) refl h

  pub all_shown_here : IsShown claims shown
  all_shown_here = by_bound (is_bound claims) refl known

pub all_shown : (claims : Members) (shown : Shown) → first_row (binding_rows claims shown) ≡ None → IsShown claims shown
all_shown = all_shown_here
