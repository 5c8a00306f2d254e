-- The keys that fit a signature are among those that go by its name.
use Rattle.std.proofs.Common.{inl, inr, ◌≡◌, ℕ, ◌≤◌, ◌<◌, ◌+◌, Bool, true, false, List, length, Option, Some, None, arith}
use Rattle.std.specs.Prelude.{◌&&◌, slice_get, codes}
use Rattle.std.specs.Option.{option_map_or}
use Rattle.std.proofs.lemmas.Option.{slice_get_past}
use Rattle.std.proofs.lemmas.Bool.{cases_lt}
use Rattle.jwt_jws.specs.Token.{SignatureParts, kid}
use Rattle.jwt_keys.specs.Keys.{KeyParts, has_name, permits_of}
use Rattle.jwt_keys.specs.Numbers.{PassesAt}
use Rattle.jwt_policy.specs.Settings.{Settings}
use Rattle.jwt_policy.specs.Bars.{alg}
use Rattle.jwt_policy.specs.Eligible.{is_for, fits}
use Rattle.jwt_policy.specs.Texts.{some_passes}

and_right : (a b : Bool) → (a && b) ≡ true → b ≡ true
and_right true b h = h
and_right false b h = cc

fits_name : (p : Settings) (s : SignatureParts) (name : List ℕ) (k : KeyParts) → kid s ≡ Some name → fits p s k ≡ true → has_name name p.header.thumb_kid k ≡ true
fits_name p s name k e h = let f = rw e at h in and_right (some_passes (is_for k) (alg s) && permits_of (codes "verify") k) (has_name name p.header.thumb_kid k) f

pub passes_name : (p : Settings) (s : SignatureParts) (name : List ℕ) (ks : List KeyParts) (i : ℕ) → kid s ≡ Some name → PassesAt (fits p s) ks i → PassesAt (has_name name p.header.thumb_kid) ks i
passes_name p s name ks i e = go (slice_get ks i)
  where
    go : (o : Option KeyParts) → option_map_or (fits p s) o false ≡ true → option_map_or (has_name name p.header.thumb_kid) o false ≡ true
    go None h = h
    go (Some k) h = fits_name p s name k e h

pub passes_within : {X : Type 0} (p : X → Bool) (xs : List X) (i : ℕ) → PassesAt p xs i → i < length xs
passes_within p xs i h = elim (cases_lt i (length xs)) [
  | inl l ↦ l
  | inr m ↦ (let e = rw (slice_get_past xs i m) at h in cc)
]

-- no key fits before j, where none fits before start and none from there on goes by the name
pub none_before : (p : Settings) (s : SignatureParts) (name : List ℕ) (ks : List KeyParts) (from start j : ℕ) → kid s ≡ Some name
    → ((i : ℕ) → from ≤ i → i < start → PassesAt (fits p s) ks i → ⊥)
    → ((i : ℕ) → start ≤ i → i < j → PassesAt (has_name name p.header.thumb_kid) ks i → ⊥)
    → (i : ℕ) → from ≤ i → i < j → PassesAt (fits p s) ks i → ⊥
none_before p s name ks from start j e none later i lo hi h = elim (cases_lt i start) [
  | inl l ↦ none i lo l h
  | inr m ↦ later i m hi (passes_name p s name ks i e h)
]

-- no key fits at all
pub none_left : (p : Settings) (s : SignatureParts) (name : List ℕ) (ks : List KeyParts) (from start : ℕ) → kid s ≡ Some name
    → ((i : ℕ) → from ≤ i → i < start → PassesAt (fits p s) ks i → ⊥)
    → ((i : ℕ) → start ≤ i → PassesAt (has_name name p.header.thumb_kid) ks i → ⊥)
    → (i : ℕ) → from ≤ i → PassesAt (fits p s) ks i → ⊥
none_left p s name ks from start e none later i lo h = elim (cases_lt i start) [
  | inl l ↦ none i lo l h
  | inr m ↦ later i m (passes_name p s name ks i e h)
]

-- nor at j
pub none_after : (p : Settings) (s : SignatureParts) (ks : List KeyParts) (from j : ℕ)
    → ((i : ℕ) → from ≤ i → i < j → PassesAt (fits p s) ks i → ⊥) → option_map_or (fits p s) (slice_get ks j) false ≡ false
    → (i : ℕ) → from ≤ i → i < j + 1 → PassesAt (fits p s) ks i → ⊥
none_after p s ks from j none here i lo hi h = elim (cases_lt i j) [
  | inl l ↦ none i lo l h
  | inr m ↦ (let e : i ≡ j = omega arith in let h2 = rw e at h in let q = rw here at h2 in cc)
]
