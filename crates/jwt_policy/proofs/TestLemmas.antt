-- What tests on options, texts and whole numbers tell.
use Rattle.std.proofs.Common.{◌≡◌, ℕ, suc, ℤ, ◌<ℤ◌, ◌≤ℤ◌, List, [], ◌∷◌, Bool, true, false, not, ◌&&◌, ◌||◌, T, int_lt, Option, Some, None, is_some, refl, sym, ap, ◌∙◌, subst, arith, Decides}
use Rattle.std.specs.List.{Contains}
use Rattle.std.specs.Str.{bytes_eq}
use Rattle.std.specs.Int.Signed.{lt_z_yes, lt_z_no, <ℤ_irrefl, <ℤ-≤ℤ_trans}
use Rattle.std.proofs.lemmas.Slice.Eq.{bytes_eq-Decides}
use Rattle.std.proofs.lemmas.Map.Views.{Contains-from_any}
use Rattle.std.proofs.lemmas.List.Folds.{list_any_at}
use Rattle.serde_json.specs.Data.{Data, null, boolean, number, string, array, object}
use Rattle.serde_json.specs.Find.{as_str}
use Rattle.jwt_policy.specs.Texts.{some_passes, is_among, any_text}

-- a test fails exactly where this holds
abbrev pub Fails : Bool → Type 0 → Type 0
Fails b P = (b ≡ false → P) × (P → b ≡ false)

pub fails_not : {P : Type 0} (b : Bool) → Decides b P → Fails (not b) P
fails_not true d = (λ _. d.0 refl, λ _. refl)
fails_not false d = (λ e. absurd cc, λ p. absurd (let e = d.1 p in cc))

-- ---- options

pub fails_every : {A : Type 0} (test : A → Bool) (o : Option A) (P : A → Type 0) → ((a : A) → Fails (test a) (P a)) → Fails (some_passes test o) ((a : A) → o ≡ Some a → P a)
fails_every test None P each = (λ _ a is. absurd cc, λ _. refl)
fails_every {A = A} test (Some b) P each = (λ e a is. subst P (same a is) ((each b).0 e), λ h. (each b).1 (h b refl))
  where
    same : (a : A) → Some b ≡ Some a → b ≡ a
    same a is = cc

pub decides_some : {A : Type 0} (test : A → Bool) (o : Option A) (P : A → Type 0) → ((a : A) → Decides (test a) (P a)) → Decides (some_passes test o) ((a : A) × (o ≡ Some a) × P a)
decides_some test None P each = (λ e. absurd cc, λ h. absurd (let is = h.1 in cc))
decides_some {A = A} test (Some b) P each = (λ e. (b, refl, (each b).0 e), λ h. (each b).1 (subst P (sym (same h.0 h.1)) h.2))
  where
    same : (a : A) → Some b ≡ Some a → b ≡ a
    same a is = cc

-- a second test that is asked where there is a value
pub fails_where : {A : Type 0} (o : Option A) (b : Bool) → Fails (is_some o && b) ((a : A) → o ≡ Some a → b ≡ false)
fails_where None b = (λ _ a is. absurd cc, λ _. refl)
fails_where (Some a) b = (λ e _ _. e, λ h. h a refl)

-- ---- whole numbers

true_from : (b : Bool) → T b → b ≡ true
true_from true t = refl
true_from false t = absurd t

pub lt_decides : (x y : ℤ) → Decides (int_lt x y) (x <ℤ y)
lt_decides x y = (λ e. lt_z_yes (subst T (sym e) tt), λ h. true_from (int_lt x y) h.lt)

pub lt_fails : (x y : ℤ) → Fails (int_lt x y) (y ≤ℤ x)
lt_fails x y = (λ e. lt_z_no (subst (λ b. T (not b)) (sym e) tt), λ h. by (int_lt x y) refl h)
  where
    by : (b : Bool) → int_lt x y ≡ b → y ≤ℤ x → b ≡ false
    by false e h = refl
    by true e h = let below : x <ℤ y = (lt_decides x y).0 e in absurd (<ℤ_irrefl (<ℤ-≤ℤ_trans below h))

-- ---- texts

pub among_decides : (ts : List (List ℕ)) (t : List ℕ) → Decides (is_among ts t) (Contains ts t)
among_decides ts t = (Contains-from_any {eq = bytes_eq} (λ x y e. (bytes_eq-Decides x y).0 e) t ts, λ h. list_any_at (bytes_eq t) ts h.0 t h.1 ((bytes_eq-Decides t _).1 (sym h.2)))

text_is : (d : Data) (t : List ℕ) → as_str d ≡ Some t → d ≡ string t
text_is null t e = absurd cc
text_is (boolean b) t e = absurd cc
text_is (number n) t e = absurd cc
text_is (string s) t e = let same : s ≡ t = cc in ap string same
text_is (array ds) t e = absurd cc
text_is (object ms) t e = absurd cc

-- an element is a text, and it passes
abbrev is_text_with : (List ℕ → Bool) → Data → Bool
is_text_with test d = some_passes test (as_str d)

text_with : (test : List ℕ → Bool) (P : List ℕ → Type 0) → ((t : List ℕ) → Decides (test t) (P t)) → (d : Data) → is_text_with test d ≡ true → (t : List ℕ) × (d ≡ string t) × P t
text_with test P each d e = let h = (decides_some test (as_str d) P each).0 e in (h.0, text_is d h.0 h.1, h.2)

found : (test : List ℕ → Bool) (P : List ℕ → Type 0) → ((t : List ℕ) → Decides (test t) (P t)) → (ds : List Data) → any_text test ds ≡ true → (t : List ℕ) × Contains ds (string t) × P t
found test P each [] e = absurd cc
found test P each (d ∷ ds) e = by (found test P each ds) (is_text_with test d) refl e
  where
    by : (any_text test ds ≡ true → (t : List ℕ) × Contains ds (string t) × P t) → (b : Bool) → is_text_with test d ≡ b → (b || any_text test ds) ≡ true → (t : List ℕ) × Contains (d ∷ ds) (string t) × P t
    by later true is _ = let h = text_with test P each d is in (h.0, (0, omega arith, h.1), h.2)
    by later false _ rest = let h = later rest in (h.0, (suc h.1.0, (let lt = h.1.1 in omega arith), h.1.2), h.2)

pub any_text_decides : (test : List ℕ → Bool) (P : List ℕ → Type 0) → ((t : List ℕ) → Decides (test t) (P t)) → (ds : List Data) → Decides (any_text test ds) ((t : List ℕ) × Contains ds (string t) × P t)
any_text_decides test P each ds = (found test P each ds, λ h. list_any_at (is_text_with test) ds h.1.0 (string h.0) h.1.1 (ap (is_text_with test) h.1.2 ∙ (each h.0).1 h.2))
