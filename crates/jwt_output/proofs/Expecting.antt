-- What claims lack of a text that one of them has to be.
use Rattle.std.proofs.Common.{◌≡◌, ◌≢◌, ◌↔◌, ◌∙◌, ap, sym, subst, refl, ℕ, zero, suc, List, [], ◌∷◌, Bool, true, false, Option, None, Some, slice_get, arith}
use Rattle.std.specs.Borrow.{Bor}
use Rattle.std.specs.Prelude.{bytes_eq, option_and_then}
use Rattle.std.proofs.lemmas.Slice.Eq.{bytes_eq-Decides}
use Rattle.serde_json.specs.Data.{Data, Members, null, boolean, number, string, array, object}
use Rattle.jwt_access.specs.Claims.{is_value}
use Rattle.jwt_access.specs.Rules.{text}
use Rattle.jwt_access.specs.Granted.{IsClaim, IsPath}
use Rattle.jwt_access.specs.Pointers.{claim_at, path_of, value_at}
use Rattle.jwt_access.specs.declared.denial.Denial.TheVariants.{ClaimMissing, ClaimNotAllowed}
use Rattle.jwt_mac.specs.declared.algorithm.Alg.{Alg}
use Rattle.jwt_access.specs.expected.Expected.{AreMet, expected_text}
use Rattle.jwt_access.specs.expected.Unmet.{IsFirstUnmet}
use Rattle.jwt_access.specs.declared.expected.expected.Expected.{Expected}
use Rattle.jwt_access.specs.declared.expected.expected.Unmet.TheVariants.{Absent, Other}
use Rattle.jwt_access.specs.declared.expected.expected.Wanted.TheVariants.{Text}
use Rattle.jwt_settings.specs.Seen.{Expectation}
use Rattle.jwt_output.specs.verdicts.Denied.{MeetExpected, expected_lacking, text_lacking}

-- the law `paths_are_spelled`
abbrev pub AreSpelled : Type 0
AreSpelled = (name : List ℕ) (path : List (List ℕ)) → (path_of name ≡ Some path) ↔ IsPath name path

-- a claim in words is the claim at its name
pub claim_is : AreSpelled → (name : List ℕ) (ms : Members) (value : Data) → IsClaim name ms value → claim_at name ms ≡ Some value
claim_is spelled name ms value (path, is, at) = ap (option_and_then (λ p. value_at p ms)) ((spelled name path).1 is) ∙ at

pub claim_at_is : AreSpelled → (name : List ℕ) (ms : Members) (value : Data) → claim_at name ms ≡ Some value → IsClaim name ms value
claim_at_is spelled name ms value e = go (path_of name) refl e
  where
    go : (path : Option (List (List ℕ))) → path_of name ≡ path → option_and_then (λ p. value_at p ms) path ≡ Some value → IsClaim name ms value
    go None is at = absurd cc
    go (Some path) is at = (path, (spelled name path).0 is, at)

-- the very text
same_text : (wanted found : List ℕ) → bytes_eq found wanted ≡ true → found ≡ wanted
same_text wanted found e = (bytes_eq-Decides found wanted).0 e

text_is : (wanted : List ℕ) (value : Data) → is_value (text wanted) value ≡ true → value ≡ string wanted
text_is wanted null e = absurd cc
text_is wanted (boolean b) e = absurd cc
text_is wanted (number n) e = absurd cc
text_is wanted (string found) e = ap string (same_text wanted found e)
text_is wanted (array items) e = absurd cc
text_is wanted (object ms) e = absurd cc

is_text : (wanted : List ℕ) → is_value (text wanted) (string wanted) ≡ true
is_text wanted = (bytes_eq-Decides wanted wanted).1 refl

-- ---- what the claims lack, by the answer of `first_unmet` on one expectation

met_is : (e : Expectation) → (o : Option Data) → o ≡ Some (string e.text) → text_lacking e o ≡ None
met_is e o is = rw (is, is_text e.text) refl

absent_is : (e : Expectation) (o : Option Data) → o ≡ None → text_lacking e o ≡ Some (ClaimMissing e.claim)
absent_is e o is = rw is refl

other_is : (e : Expectation) (o : Option Data) (value : Data) → o ≡ Some value → value ≢ string e.text → text_lacking e o ≡ Some (ClaimNotAllowed e.claim)
other_is e o value is differs = rw is (go (is_value (text e.text) value) refl)
  where
    go : (b : Bool) → is_value (text e.text) value ≡ b → text_lacking e (Some value) ≡ Some (ClaimNotAllowed e.claim)
    go true same = absurd (differs (text_is e.text value same))
    go false same = rw same refl

no_claim : AreSpelled → (name : List ℕ) (ms : Members) → ((value : Data) → ¬ IsClaim name ms value) → claim_at name ms ≡ None
no_claim spelled name ms absent = go (claim_at name ms) refl
  where
    go : (o : Option Data) → claim_at name ms ≡ o → claim_at name ms ≡ None
    go None is = is
    go (Some value) is = absurd (absent value (claim_at_is spelled name ms value is))

only_one : (e x : Expected) (place : ℕ) → slice_get (e ∷ []) place ≡ Some x → x ≡ e
only_one e x zero h = cc
only_one e x (suc n) h = absurd cc

-- an expectation of a text
abbrev pub of_text : Bor (List ℕ) → Bor (List ℕ) → Expected
of_text claim wanted = record { claim = claim; wanted = Text wanted }

abbrev pub as_asked : Bor (List ℕ) → Bor (List ℕ) → Expectation
as_asked claim wanted = record { claim = claim.now; text = wanted.now }

pub met_lacks : AreSpelled → (alg : Alg) (claim wanted : Bor (List ℕ)) (ms : Members) → AreMet alg ms (of_text claim wanted ∷ []) → expected_lacking (Some (as_asked claim wanted)) ms ≡ None
met_lacks spelled alg claim wanted ms met =
    met_is (as_asked claim wanted) (claim_at claim.now ms) (claim_is spelled claim.now ms (string wanted.now) (met (of_text claim wanted) (0, omega arith, refl)))

pub absent_lacks : AreSpelled → (alg : Alg) (claim wanted : Bor (List ℕ)) (ms : Members) (place : ℕ) → IsFirstUnmet alg ms (of_text claim wanted ∷ []) (Absent place)
    → expected_lacking (Some (as_asked claim wanted)) ms ≡ Some (ClaimMissing claim.now)
absent_lacks spelled alg claim wanted ms place (expected, reached, absent) =
    absent_is (as_asked claim wanted) (claim_at claim.now ms)
    (no_claim spelled claim.now ms (λ value is. absent value (subst (λ x. IsClaim x.claim.now ms value) (sym (only_one (of_text claim wanted) expected place reached.is)) is)))

pub other_lacks : AreSpelled → (alg : Alg) (claim wanted : Bor (List ℕ)) (ms : Members) (place : ℕ) → IsFirstUnmet alg ms (of_text claim wanted ∷ []) (Other place)
    → expected_lacking (Some (as_asked claim wanted)) ms ≡ Some (ClaimNotAllowed claim.now)
other_lacks spelled alg claim wanted ms place (expected, reached, (value, is, differs)) =
    let one = only_one (of_text claim wanted) expected place reached.is in
    other_is (as_asked claim wanted) (claim_at claim.now ms) value
    (claim_is spelled claim.now ms value (subst (λ x. IsClaim x.claim.now ms value) one is))
    (subst (λ x. value ≢ string (expected_text alg x.wanted)) one differs)

-- ---- where it lacks nothing

text_lacks_none : (e : Expectation) (o : Option Data) → text_lacking e o ≡ None → o ≡ Some (string e.text)
text_lacks_none e None is = absurd cc
text_lacks_none e (Some value) is = go (is_value (text e.text) value) refl
  where
    go : (b : Bool) → is_value (text e.text) value ≡ b → Some value ≡ Some (string e.text)
    go true same = ap Some (text_is e.text value same)
    go false same = absurd (let differs = rw same at is in cc)

pub expected_lacks_none : AreSpelled → (expected : Option Expectation) (ms : Members) → (expected_lacking expected ms ≡ None) ↔ MeetExpected expected ms
expected_lacks_none spelled None ms = (λ e. tt, λ h. refl)
expected_lacks_none spelled (Some e) ms = (
  λ is. claim_at_is spelled e.claim ms (string e.text) (text_lacks_none e (claim_at e.claim ms) is),
  λ is. met_is e (claim_at e.claim ms) (claim_is spelled e.claim ms (string e.text) is),
)
