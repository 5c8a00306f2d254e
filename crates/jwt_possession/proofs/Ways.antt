-- The names of the members of `cnf`, place by place.
use Rattle.std.proofs.Common.{◌≡◌, ℕ, zero, suc, ◌+◌, ◌≤◌, List, [], ◌∷◌, length, drop, slice_get, true, false, ◌&&◌, Some, None, ap, ◌∙◌, refl, arith, add-one}
use Rattle.std.specs.List.{list_all}
use Rattle.serde_json.specs.Data.{Members, no_members, member}
use Rattle.serde_json.specs.Events.{members_len}
use Rattle.jwt_text.specs.Members.{member_names}
use Rattle.jwt_possession.specs.Shown.{is_known_way, has_none}

pub length_names : (ms : Members) → length (member_names ms) ≡ members_len ms
length_names no_members = refl
length_names (member k d ms) = ap suc (length_names ms)

known_at : (ts : List (List ℕ)) (i : ℕ) (t : List ℕ) → slice_get ts i ≡ Some t → list_all is_known_way (drop i ts) ≡ (is_known_way t && list_all is_known_way (drop (suc i) ts))
known_at [] i t h = cc
known_at (u ∷ ts) zero t h = let same : u ≡ t = cc in rw same refl
known_at (u ∷ ts) (suc i) t h = known_at ts i t h

pub unknown_here : (ts : List (List ℕ)) (i : ℕ) (t : List ℕ) → slice_get ts i ≡ Some t → is_known_way t ≡ false → list_all is_known_way (drop i ts) ≡ false
unknown_here ts i t h unknown = known_at ts i t h ∙ ap (λ b. b && list_all is_known_way (drop (suc i) ts)) unknown

pub known_later : (ts : List (List ℕ)) (i : ℕ) (t : List ℕ) → slice_get ts i ≡ Some t → is_known_way t ≡ true → list_all is_known_way (drop i ts) ≡ list_all is_known_way (drop (i + 1) ts)
known_later ts i t h known = rw add-one (known_at ts i t h ∙ ap (λ b. b && list_all is_known_way (drop (suc i) ts)) known)

pub known_end : (ts : List (List ℕ)) (i : ℕ) → length ts ≤ i → list_all is_known_way (drop i ts) ≡ true
known_end [] zero h = refl
known_end [] (suc i) h = refl
known_end (u ∷ ts) zero h = absurd (omega arith)
known_end (u ∷ ts) (suc i) h = known_end ts i (omega arith)

pub known_past : (ts : List (List ℕ)) (i : ℕ) → slice_get ts i ≡ None → list_all is_known_way (drop i ts) ≡ true
known_past [] zero h = refl
known_past [] (suc i) h = refl
known_past (u ∷ ts) zero h = cc
known_past (u ∷ ts) (suc i) h = known_past ts i h

pub none_there : (ts : List (List ℕ)) → slice_get ts 0 ≡ None → has_none ts ≡ true
none_there [] h = refl
none_there (u ∷ ts) h = cc

pub some_there : (ts : List (List ℕ)) (t : List ℕ) → slice_get ts 0 ≡ Some t → has_none ts ≡ false
some_there [] t h = cc
some_there (u ∷ ts) t h = refl
