-- The sum over the keys of a name is the sum over all keys, since a key of another name costs nothing.
use Rattle.std.proofs.Common.{◌≡◌, ℕ, zero, suc, ◌+◌, ◌-◌, ◌<◌, ◌≤◌, Bool, true, false, if◌then◌else◌, ◌&&◌, List, length, drop, slice_get, Option, Some, None, refl, ap, ⊎_elim, arith}
use Rattle.std.specs.List.{sum_by}
use Rattle.std.specs.Option.{option_map_or}
use Rattle.std.proofs.lemmas.Bool.{cases_lt, false_from_ne_true}
use Rattle.std.proofs.lemmas.List.{drop_all}
use Rattle.jwt_mac.specs.declared.algorithm.Alg.{Alg}
use Rattle.jwt_mac.specs.Verifying.{Meaning}
use Rattle.jwt_keys.specs.Keys.{KeyParts, has_name}
use Rattle.jwt_keys.specs.Numbers.{PassesAt}
use Rattle.jwt_policy.specs.Settings.{Settings}
use Rattle.jwt_advice.specs.Uses.{serves}
use Rattle.jwt_advice.specs.Costs.{key_try_cost}
use Rattle.jwt_advice.specs.declared.costs.Cost.{Cost}
use Rattle.jwt_advice.specs.declared.costs.Cost.TheVariants.{Work, Calls}
use Rattle.jwt_advice.proofs.Walks.{sum_more, passes_at, value_at}

module _ {X : Type 0} (p : X → Bool) (f : X → ℕ) (xs : List X) (nothing : (x : X) → p x ≡ false → f x ≡ 0) where
  value_of : (o : Option X) → option_map_or p o false ≡ false → option_map_or f o 0 ≡ 0
  value_of None e = refl
  value_of (Some x) e = nothing x e

  none_here : (j : ℕ) → (PassesAt p xs j → ⊥) → value_at f xs j ≡ 0
  none_here j none = value_of (slice_get xs j) (false_from_ne_true (passes_at p xs j) none)

  pub skipped : (d n j : ℕ) → n + d ≡ j → j < length xs → ((i : ℕ) → n ≤ i → i < j → PassesAt p xs i → ⊥) → sum_by f (drop n xs) ≡ sum_by f (drop j xs)
  skipped zero n j is within none = let here : n ≡ j = omega arith in ap (λ m. sum_by f (drop m xs)) here
  skipped (suc d) n j is within none =
      let more = rw (none_here n (none n (omega arith) (omega arith))) at (sum_more f xs n (omega arith)) in
      omega (arith, more, skipped d (n + 1) j (omega arith) within (λ i le. none i (omega arith)))

  none_summed : (d n : ℕ) → n + d ≡ length xs → ((i : ℕ) → n ≤ i → PassesAt p xs i → ⊥) → sum_by f (drop n xs) ≡ 0
  none_summed zero n all none = rw (drop_all n xs (omega arith)) refl
  none_summed (suc d) n all none =
      let more = rw (none_here n (none n (omega arith))) at (sum_more f xs n (omega arith)) in
      omega (arith, more, none_summed d (n + 1) (omega arith) (λ i le. none i (omega arith)))

  pub none_left : (n : ℕ) → ((i : ℕ) → n ≤ i → PassesAt p xs i → ⊥) → sum_by f (drop n xs) ≡ 0
  none_left n none =
      ⊎_elim
      (λ within. none_summed (length xs - n) n (omega arith) none)
      (λ past. rw (drop_all n xs past) refl)
      (cases_lt n (length xs))

if_unnamed : (n : ℕ) (b name : Bool) → name ≡ false → (if b && name then n else 0) ≡ 0
if_unnamed n true name e = rw e refl
if_unnamed n false name e = refl

pub unnamed : (cost : Cost) (policy : Settings) (verifiers : List Meaning) (name : List ℕ) (alg : Alg) (key : KeyParts) → has_name name policy.header.thumb_kid key ≡ false →
    key_try_cost cost policy verifiers (Some name) alg key ≡ 0
unnamed Work policy verifiers name alg key e = if_unnamed _ (serves verifiers key alg) _ e
unnamed Calls policy verifiers name alg key e = if_unnamed 1 (serves verifiers key alg) _ e
