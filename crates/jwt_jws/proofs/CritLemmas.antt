-- One element more of a list whose texts are looked up.
use Rattle.std.proofs.Common.{◌≡◌, ℕ, zero, suc, ◌<◌, ◌||◌, not, Bool, true, false, cond, List, [], ◌∷◌, drop, length, Option, Some, None, refl, sym, ap, ◌∙◌, arith}
use Rattle.std.specs.Prelude.{is_some, slice_get, option_and_then}
use Rattle.std.specs.List.{list_any}
use Rattle.std.specs.Str.{bytes_eq}
use Rattle.serde_json.specs.Data.{Data}
use Rattle.serde_json.specs.Find.{as_str}
use Rattle.jwt_jws.specs.Crit.{repeats_text}
use Rattle.jwt_jws.proofs.Shapes.{is_text}

pub some_after : {X : Type 0} (b : Bool) (x : X) (o : Option X) → is_some (cond b (Some x) o) ≡ (b || is_some o)
some_after true x o = refl
some_after false x o = refl

pub texts_more : (ds : List Data) (i : ℕ) (t r : List ℕ) → option_and_then as_str (slice_get ds i) ≡ Some t
    → list_any (is_text r) (drop i ds) ≡ (bytes_eq t r || list_any (is_text r) (drop (suc i) ds))
texts_more [] i t r e = cc
texts_more (d ∷ ds) zero t r e = rw e refl
texts_more (d ∷ ds) (suc i) t r e = texts_more ds i t r e

pub repeats_more : (ds : List Data) (i : ℕ) (t : List ℕ) → option_and_then as_str (slice_get ds i) ≡ Some t
    → repeats_text (drop i ds) ≡ (list_any (is_text t) (drop (suc i) ds) || repeats_text (drop (suc i) ds))
repeats_more [] i t e = cc
repeats_more (d ∷ ds) zero t e = rw e refl
repeats_more (d ∷ ds) (suc i) t e = repeats_more ds i t e

pub texts_none : (ds : List Data) (i : ℕ) (r : List ℕ) → i < length ds → option_and_then as_str (slice_get ds i) ≡ None
    → list_any (is_text r) (drop i ds) ≡ list_any (is_text r) (drop (suc i) ds)
texts_none [] i r h e = absurd (omega arith)
texts_none (d ∷ ds) zero r h e = rw e refl
texts_none (d ∷ ds) (suc i) r h e = texts_none ds i r (omega arith) e

pub repeats_none : (ds : List Data) (i : ℕ) → i < length ds → option_and_then as_str (slice_get ds i) ≡ None
    → repeats_text (drop i ds) ≡ repeats_text (drop (suc i) ds)
repeats_none [] i h e = absurd (omega arith)
repeats_none (d ∷ ds) zero h e = rw e refl
repeats_none (d ∷ ds) (suc i) h e = repeats_none ds i (omega arith) e

or_right : (a b : Bool) → b ≡ true → (a || b) ≡ true
or_right true b e = refl
or_right false b e = e

-- what stands twice in the end of a list stands twice in it
pub repeats_before : (ds : List Data) (i : ℕ) → repeats_text (drop i ds) ≡ true → repeats_text ds ≡ true
repeats_before [] zero e = e
repeats_before [] (suc i) e = e
repeats_before (d ∷ ds) zero e = e
repeats_before (d ∷ ds) (suc i) e = or_right _ (repeats_text ds) (repeats_before ds i e)

-- ---- one place down, from p to i

pub down_texts : (ds : List Data) (p i : ℕ) (t : List ℕ) (seen new : List ℕ → Bool) → p ≡ suc i → Some t ≡ option_and_then as_str (slice_get ds i)
    → ((r : List ℕ) → seen r ≡ list_any (is_text r) (drop p ds)) → ((r : List ℕ) → new r ≡ (bytes_eq t r || seen r))
    → (r : List ℕ) → new r ≡ list_any (is_text r) (drop i ds)
down_texts ds p i t seen new down at was adds r =
    adds r ∙ ap (λ b. bytes_eq t r || b) (was r ∙ ap (λ n. list_any (is_text r) (drop n ds)) down) ∙ sym (texts_more ds i t r (sym at))

or_false : (a b : Bool) → b ≡ false → (a || b) ≡ a
or_false true b e = refl
or_false false b e = e

pub down_repeats : (ds : List Data) (p i : ℕ) (t : List ℕ) (seen : List ℕ → Bool) → p ≡ suc i → Some t ≡ option_and_then as_str (slice_get ds i)
    → ((r : List ℕ) → seen r ≡ list_any (is_text r) (drop p ds)) → repeats_text (drop p ds) ≡ false → repeats_text (drop i ds) ≡ seen t
down_repeats ds p i t seen down at was once =
    repeats_more ds i t (sym at)
    ∙ or_false _ _ (ap (λ n. repeats_text (drop n ds)) (sym down) ∙ once)
    ∙ ap (λ n. list_any (is_text t) (drop n ds)) (sym down) ∙ sym (was t)

pub not_false : (a b : Bool) → a ≡ not b → a ≡ true → b ≡ false
not_false a true e h = cc
not_false a false e h = refl

pub not_true : (a b : Bool) → a ≡ not b → a ≡ false → b ≡ true
not_true a true e h = refl
not_true a false e h = cc
