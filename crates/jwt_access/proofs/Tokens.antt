-- Tokens of a JSON Pointer, and the names that they spell.
use Rattle.std.proofs.Common.{◌≡◌, ◌≢◌, ◌↔◌, ℕ, suc, ◌+◌, ◌<◌, ◌≤◌, nat_lt, ◌==◌, List, [], ◌∷◌, ◌++◌, append-nil, length, slice_get, get_or, Bool, true, false, Option, Some, None, option_and_then, Ordering, Less, Equal, Greater, nat_cmp, is_eq, refl, sym, ap, ◌∙◌, subst, arith, ne_eqb, ⊎_elim, inl}
use Rattle.std.specs.Ordering.{match_ordering}
use Rattle.std.specs.Cmp.Lexicographic.{slice_cmp}
use Rattle.std.proofs.lemmas.List.{get_or_default}
use Rattle.std.proofs.lemmas.List.Splits.{slice_split_none}
use Rattle.std.proofs.lemmas.Map.Text.{is_eq-slice_cmp}
use Rattle.std.proofs.lemmas.Option.{slice_get_within}
use Rattle.std.proofs.lemmas.Bool.{ltb-true, ltb-false}
use Rattle.jwt_policy.proofs.NamesLemmas.{length_names}
use Rattle.std.proofs.lemmas.Slice.Eq.{bytes_eq-Decides}
use Rattle.serde_json.specs.Data.{Data, Members, no_members, member}
use Rattle.serde_json.specs.Find.{get_member}
use Rattle.serde_json.specs.Events.{members_len}
use Rattle.jwt_text.specs.Members.{member_names}
use Rattle.jwt_policy.specs.MemberKinds.{all_some}
use Rattle.jwt_access.specs.Pointers.{joined_tildes, path_of, unescaped}
use Rattle.jwt_access.specs.Granted.{IsPath, escaped, pointer, is_pointer}
use Rattle.jwt_access.specs.expected.Views.{Lacks, member_of}

-- none of a text is the character, as std's clauses have it
pub lacks : (c : ℕ) (text : List ℕ) → ((i : ℕ) → i < length text → get_or text i 0 ≢ c) → Lacks c text
lacks c text h k d lt = ne_eqb _ c (λ e. h k lt (get_or_default text k 0 d lt ∙ e))

-- the law of paths, which `jwt_access` proves
abbrev pub PathsAreSpelled : Type 0
PathsAreSpelled = (name : List ℕ) (path : List (List ℕ)) → (path_of name ≡ Some path) ↔ IsPath name path

-- ---- one token

one_token : (token : List ℕ) → Lacks 47 token → path_of (47 ∷ token) ≡ option_and_then (λ name. Some (name ∷ [])) (unescaped token)
unfolding path_of
one_token token h = ap (all_some unescaped) (slice_split_none (λ c. c == 47) token h)

-- the name that a token spells is unescaped from it
pub unescaped_of : PathsAreSpelled → (token name : List ℕ) → Lacks 47 token → token ≡ escaped name → unescaped token ≡ Some name
unescaped_of law token name h is =
    let along : (name ∷ [] ≢ []) × (47 ∷ token ≡ pointer (name ∷ [])) = ((λ none. cc), ap (λ (t : List ℕ). 47 ∷ t) (is ∙ sym (append-nil (escaped name)))) in
    by (unescaped token) refl (sym (one_token token h) ∙ (law (47 ∷ token) (name ∷ [])).1 (inl along))
  where
    by : (o : Option (List ℕ)) → unescaped token ≡ o → option_and_then (λ n. Some (n ∷ [])) o ≡ Some (name ∷ []) → unescaped token ≡ Some name
    by None was e = absurd cc
    by (Some n) was e = let same : n ≡ name = cc in was ∙ ap Some same

-- and the other way round
pub spells_of : PathsAreSpelled → (token name : List ℕ) → Lacks 47 token → unescaped token ≡ Some name → token ≡ escaped name
spells_of law token name h is = ⊎_elim along alone ((law (47 ∷ token) (name ∷ [])).0 (one_token token h ∙ ap (λ o. option_and_then (λ n. Some (n ∷ [])) o) is))
  where
    along : (name ∷ [] ≢ []) × (47 ∷ token ≡ pointer (name ∷ [])) → token ≡ escaped name
    along p = let whole = p.1 in let same : token ≡ escaped name ++ [] = cc in same ∙ append-nil (escaped name)

    alone : (is_pointer (47 ∷ token) ≡ false) × (name ∷ [] ≡ (47 ∷ token) ∷ []) → token ≡ escaped name
    alone p = let no = p.0 in absurd cc

-- a token without `~` spells itself
pub plain : (token : List ℕ) → Lacks 126 token → unescaped token ≡ Some token
plain token h = ap (λ ts. joined_tildes ts) (slice_split_none (λ c. c == 126) token h) ∙ ap Some (append-nil token)

-- ---- the members, one by one

-- no name before this place is spelled
abbrev pub NoneBefore : List ℕ → Members → ℕ → Type 0
NoneBefore token ms place = (at : ℕ) (name : List ℕ) → at < place → slice_get (member_names ms) at ≡ Some name → token ≢ escaped name

place_step : (name other : List ℕ) (ms : Members) (value d : Data) → (get_member name ms ≡ Some d → (at : ℕ) × (slice_get (member_names ms) at ≡ Some name)) → (o : Ordering) → slice_cmp nat_cmp name other ≡ o → match_ordering o (get_member name ms) (Some value) (get_member name ms) ≡ Some d → (at : ℕ) × (slice_get (other ∷ member_names ms) at ≡ Some name)
place_step name other ms value d more Less was is = let h = more is in (suc h.0, h.1)
place_step name other ms value d more Equal was is = (0, ap Some (sym ((bytes_eq-Decides name other).0 (sym (is_eq-slice_cmp name other) ∙ ap is_eq was))))
place_step name other ms value d more Greater was is = let h = more is in (suc h.0, h.1)

place_of : (name : List ℕ) (ms : Members) (d : Data) → get_member name ms ≡ Some d → (at : ℕ) × (slice_get (member_names ms) at ≡ Some name)
place_of name no_members d e = absurd cc
place_of name (member other value ms) d e = place_step name other ms value d (place_of name ms d) (slice_cmp nat_cmp name other) refl e

-- where the token spells no name of a member, it has none
pub none_there : PathsAreSpelled → (token : List ℕ) (ms : Members) (count : ℕ) → Lacks 47 token → members_len ms ≤ count → NoneBefore token ms count → member_of token ms ≡ None
none_there law token ms count h end none = by (unescaped token) refl
  where
    there : (name : List ℕ) → unescaped token ≡ Some name → (o : Option Data) → get_member name ms ≡ o → o ≡ None
    there name was None got = refl
    there name was (Some d) got =
        let at = place_of name ms d got in
        absurd (none at.0 name (omega (arith, slice_get_within (member_names ms) at.0 name at.1, length_names ms, end)) at.1 (spells_of law token name h was))

    by : (o : Option (List ℕ)) → unescaped token ≡ o → option_and_then (λ name. get_member name ms) o ≡ None
    by None was = refl
    by (Some name) was = there name was (get_member name ms) refl

pub none_more : (token : List ℕ) (ms : Members) (place : ℕ) (name : List ℕ) → slice_get (member_names ms) place ≡ Some name → token ≢ escaped name → NoneBefore token ms place → NoneBefore token ms (place + 1)
none_more token ms place name is other none at earlier lt got = by (nat_lt at place) refl
  where
    by : (b : Bool) → nat_lt at place ≡ b → token ≢ escaped earlier
    by true below = none at earlier (ltb-true at place below) got
    by false above =
        let here : at ≡ place = (let le = ltb-false at place above in omega arith) in
        let both : Some name ≡ Some earlier = sym is ∙ ap (slice_get (member_names ms)) (sym here) ∙ got in
        let same : name ≡ earlier = cc in
        subst (λ (n : List ℕ). token ≢ escaped n) same other
