-- The items of a list, place by place.
use Rattle.std.proofs.Common.{◌≡◌, ℕ, zero, suc, ◌+◌, ◌<◌, List, [], ◌∷◌, length, drop, Bool, ◌||◌, ◌&&◌, slice_get, Option, option_and_then, refl, arith, add-one}
use Rattle.serde_json.specs.Data.{Data}
use Rattle.serde_json.specs.Find.{as_str}
use Rattle.jwt_policy.specs.Texts.{some_passes, any_text, each_text}

-- the text at a place
abbrev pub text_of : List Data → ℕ → Option (List ℕ)
text_of ds i = option_and_then as_str (slice_get ds i)

any_at : (test : List ℕ → Bool) (ds : List Data) (i : ℕ) → i < length ds → any_text test (drop i ds) ≡ (some_passes test (text_of ds i) || any_text test (drop (suc i) ds))
any_at test [] i h = absurd (omega arith)
any_at test (d ∷ ds) zero h = refl
any_at test (d ∷ ds) (suc i) h = any_at test ds i (omega arith)

pub any_more : (test : List ℕ → Bool) (ds : List Data) (i : ℕ) → i < length ds → any_text test (drop i ds) ≡ (some_passes test (text_of ds i) || any_text test (drop (i + 1) ds))
any_more test ds i h = rw add-one (any_at test ds i h)

each_at : (test : List ℕ → Bool) (ds : List Data) (i : ℕ) → i < length ds → each_text test (drop i ds) ≡ (some_passes test (text_of ds i) && each_text test (drop (suc i) ds))
each_at test [] i h = absurd (omega arith)
each_at test (d ∷ ds) zero h = refl
each_at test (d ∷ ds) (suc i) h = each_at test ds i (omega arith)

pub each_more : (test : List ℕ → Bool) (ds : List Data) (i : ℕ) → i < length ds → each_text test (drop i ds) ≡ (some_passes test (text_of ds i) && each_text test (drop (i + 1) ds))
each_more test ds i h = rw add-one (each_at test ds i h)
