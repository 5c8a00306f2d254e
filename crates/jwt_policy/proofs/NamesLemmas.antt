-- The member_names of an object, place by place.
use Rattle.std.proofs.Common.{◌≡◌, ℕ, zero, suc, ◌+◌, ◌≤◌, List, [], ◌∷◌, length, drop, slice_get, Bool, true, false, not, Option, Some, None, cond, ap, ◌∙◌, refl, arith, add-one}
use Rattle.serde_json.specs.Data.{Members, no_members, member}
use Rattle.serde_json.specs.Events.{members_len}
use Rattle.jwt_text.specs.Members.{member_names}
use Rattle.jwt_policy.specs.Document.{is_known, unknown_in}

pub length_names : (ms : Members) → length (member_names ms) ≡ members_len ms
length_names no_members = refl
length_names (member k d ms) = ap suc (length_names ms)

unknown_at : (two : Bool) (ts : List (List ℕ)) (i : ℕ) (t : List ℕ) → slice_get ts i ≡ Some t → unknown_in two (drop i ts) ≡ cond (is_known two t) (unknown_in two (drop (suc i) ts)) (Some t)
unknown_at two [] i t h = cc
unknown_at two (u ∷ ts) zero t h = let same : u ≡ t = cc in rw same (turned (is_known two t) (unknown_in two ts) t)
  where
    turned : (b : Bool) (o : Option (List ℕ)) (v : List ℕ) → cond (not b) (Some v) o ≡ cond b o (Some v)
    turned true o v = refl
    turned false o v = refl
unknown_at two (u ∷ ts) (suc i) t h = unknown_at two ts i t h

pub unknown_here : (two : Bool) (ts : List (List ℕ)) (i : ℕ) (t : List ℕ) → slice_get ts i ≡ Some t → is_known two t ≡ false → unknown_in two (drop i ts) ≡ Some t
unknown_here two ts i t h unknown = unknown_at two ts i t h ∙ ap (λ b. cond b (unknown_in two (drop (suc i) ts)) (Some t)) unknown

pub unknown_later : (two : Bool) (ts : List (List ℕ)) (i : ℕ) (t : List ℕ) → slice_get ts i ≡ Some t → is_known two t ≡ true → unknown_in two (drop i ts) ≡ unknown_in two (drop (i + 1) ts)
unknown_later two ts i t h known = rw add-one (unknown_at two ts i t h ∙ ap (λ b. cond b (unknown_in two (drop (suc i) ts)) (Some t)) known)

pub unknown_end : (two : Bool) (ts : List (List ℕ)) (i : ℕ) → length ts ≤ i → unknown_in two (drop i ts) ≡ None
unknown_end two [] zero h = refl
unknown_end two [] (suc i) h = refl
unknown_end two (u ∷ ts) zero h = absurd (omega arith)
unknown_end two (u ∷ ts) (suc i) h = unknown_end two ts i (omega arith)

pub unknown_past : (two : Bool) (ts : List (List ℕ)) (i : ℕ) → slice_get ts i ≡ None → unknown_in two (drop i ts) ≡ None
unknown_past two [] zero h = refl
unknown_past two [] (suc i) h = refl
unknown_past two (u ∷ ts) zero h = cc
unknown_past two (u ∷ ts) (suc i) h = unknown_past two ts i h
