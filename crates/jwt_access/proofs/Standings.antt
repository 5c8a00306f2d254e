-- How a claim stands to what is expected of it, in words.
use Rattle.std.proofs.Common.{◌≡◌, ℕ, ◌+◌, ◌<◌, ◌≤◌, nat_lt, List, length, get_or, slice_get, Bool, true, false, Option, Some, None, is_some, option_and_then, refl, sym, ap, ◌∙◌, subst, arith}
use Rattle.std.specs.Str.{bytes_eq}
use Rattle.std.proofs.lemmas.Bool.{ltb-true, ltb-false}
use Rattle.std.proofs.lemmas.Option.{slice_get-get_or}
use Rattle.std.proofs.lemmas.Slice.Eq.{bytes_eq-Decides}
use Rattle.serde_json.specs.Data.{Data, null, boolean, number, string, array, object, Members}
use Rattle.serde_json.specs.Find.{as_str}
use Rattle.jwt_mac.specs.declared.algorithm.Alg.{Alg}
use Rattle.jwt_access.specs.Pointers.{value_at, path_of, claim_at}
use Rattle.jwt_access.specs.Granted.{IsClaim}
use Rattle.jwt_access.specs.expected.Expected.{expected_text, IsMet, AreMet}
use Rattle.jwt_access.specs.expected.Unmet.{IsAbsent, IsOther, IsReached}
use Rattle.jwt_access.specs.declared.expected.expected.Expected.{Expected}
use Rattle.jwt_access.proofs.Tokens.{PathsAreSpelled}

-- ---- the claim of a name

pub claim_is : PathsAreSpelled → (name : List ℕ) (ms : Members) (d : Data) → claim_at name ms ≡ Some d → IsClaim name ms d
claim_is law name ms d e = by (path_of name) refl e
  where
    by : (o : Option (List (List ℕ))) → path_of name ≡ o → option_and_then (λ path. value_at path ms) o ≡ Some d → IsClaim name ms d
    by None is at = absurd cc
    by (Some path) is at = (path, (law name path).0 is, at)

pub is_claim : PathsAreSpelled → (name : List ℕ) (ms : Members) (d : Data) → IsClaim name ms d → claim_at name ms ≡ Some d
is_claim law name ms d h = ap (λ o. option_and_then (λ path. value_at path ms) o) ((law name h.0).1 h.1) ∙ h.2

pub absent : PathsAreSpelled → (ms : Members) (e : Expected) → claim_at e.claim.now ms ≡ None → IsAbsent ms e
absent law ms e is d claim = let there = is_claim law e.claim.now ms d claim in cc

pub none_of : (o p : Option Data) → o ≡ p → false ≡ is_some o → p ≡ None
none_of None p is none = sym is
none_of (Some d) p is none = absurd cc

-- ---- a text

string_of : (d : Data) (t : List ℕ) → as_str d ≡ Some t → d ≡ string t
string_of null t e = absurd cc
string_of (boolean b) t e = absurd cc
string_of (number n) t e = absurd cc
string_of (string s) t e = let same : s ≡ t = cc in ap string same
string_of (array ds) t e = absurd cc
string_of (object ms) t e = absurd cc

text_claim : (o : Option Data) (t : List ℕ) → Some t ≡ option_and_then as_str o → o ≡ Some (string t)
text_claim None t e = absurd cc
text_claim (Some d) t e = ap Some (string_of d t (sym e))

pub other : PathsAreSpelled → (alg : Alg) (ms : Members) (e : Expected) (o : Option Data) (t : List ℕ) → o ≡ claim_at e.claim.now ms → Some t ≡ option_and_then as_str o → false ≡ bytes_eq t (expected_text alg e.wanted) → IsOther alg ms e
other law alg ms e o t is text same = (
  string t,
  claim_is law e.claim.now ms (string t) (sym is ∙ text_claim o t text),
  λ wanted.
      let texts : t ≡ expected_text alg e.wanted = cc in
      let wrong : false ≡ true = same ∙ (bytes_eq-Decides t (expected_text alg e.wanted)).1 texts in cc,
)

pub no_text : PathsAreSpelled → (alg : Alg) (ms : Members) (e : Expected) (o : Option Data) → o ≡ claim_at e.claim.now ms → true ≡ is_some o → None ≡ option_and_then as_str o → IsOther alg ms e
no_text law alg ms e None is there text = absurd cc
no_text law alg ms e (Some d) is there text =
    (d, claim_is law e.claim.now ms d (sym is), λ wanted. let some = ap as_str wanted in let none : None ≡ as_str d = text in cc)

-- ---- all of a list

-- each before this place is met
abbrev pub MetBefore : Alg → Members → List Expected → ℕ → Type 0
MetBefore alg ms list place = (at : ℕ) (earlier : Expected) → at < place → slice_get list at ≡ Some earlier → IsMet alg ms earlier

pub met_more : (alg : Alg) (ms : Members) (list : List Expected) (place : ℕ) (d : Expected) → place < length list → IsMet alg ms (get_or list place d) → MetBefore alg ms list place → MetBefore alg ms list (place + 1)
met_more alg ms list place d less here before at earlier lt got = by (nat_lt at place) refl
  where
    by : (b : Bool) → nat_lt at place ≡ b → IsMet alg ms earlier
    by true below = before at earlier (ltb-true at place below) got
    by false above =
        let same_place : at ≡ place = (let le = ltb-false at place above in omega arith) in
        let both : Some (get_or list place d) ≡ Some earlier = sym (slice_get-get_or list place d less) ∙ ap (slice_get list) (sym same_place) ∙ got in
        let same : get_or list place d ≡ earlier = cc in
        subst (IsMet alg ms) same here

pub all_met : (alg : Alg) (ms : Members) (list : List Expected) (place : ℕ) → length list ≤ place → MetBefore alg ms list place → AreMet alg ms list
all_met alg ms list place end before e has =
    before has.0 e (let lt = has.1 in omega arith) (slice_get-get_or list has.0 e has.1 ∙ ap Some has.2)

-- the one at this place is the first that isn't met
pub reached : (alg : Alg) (ms : Members) (list : List Expected) (place : ℕ) (d : Expected) → place < length list → MetBefore alg ms list place → IsReached alg ms list place (get_or list place d)
reached alg ms list place d lt before = record { is = slice_get-get_or list place d lt; before = before }
