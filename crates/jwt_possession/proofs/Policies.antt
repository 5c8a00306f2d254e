-- A policy that lacks nothing is one for proofs.
use Rattle.std.proofs.Common.{◌≡◌, ℕ, Bool, true, false, not, ◌&&◌, List, [], ◌∷◌, codes, Option, Some, None, is_none, refl, sym, ap, ◌∙◌, true≢false}
use Rattle.std.specs.List.{list_any, Contains}
use Rattle.std.specs.Str.{bytes_eq}
use Rattle.std.proofs.lemmas.Slice.Eq.{bytes_eq-Decides}
use Rattle.std.proofs.lemmas.List.Folds.{list_any_at}
use Rattle.std.proofs.lemmas.Map.Views.{Contains-from_any}
use Rattle.jwt_mac.specs.declared.algorithm.Alg.{Alg}
use Rattle.jwt_mac.specs.Algorithm.{is_hmac_alg}
use Rattle.jwt_text.specs.Rows.{Row, first_row}
use Rattle.jwt_policy.specs.Settings.{Settings}
use Rattle.jwt_policy.specs.Texts.{some_passes, is_among}
use Rattle.jwt_possession.specs.ProofPolicies.{IsProofPolicy, policy_rows, requires_all}

-- ---- rows, tests and texts

abbrev pub FailsEach : {A : Type 0} → List (Row A) → Type 0
FailsEach [] = Unit {0}
FailsEach (row ∷ rows) = (row.holds ≡ false) × FailsEach rows

row_fails : {A : Type 0} (row : Row A) (rows : List (Row A)) (b : Bool) → row.holds ≡ b → first_row (row ∷ rows) ≡ None → (row.holds ≡ false) × (first_row rows ≡ None)
row_fails row rows true is none = absurd (let found : first_row (row ∷ rows) ≡ Some row.answer = rw is refl in cc)
row_fails row rows false is none = (is, (let rest : first_row (row ∷ rows) ≡ first_row rows = rw is refl in sym rest ∙ none))

pub fails_each : {A : Type 0} (rows : List (Row A)) → first_row rows ≡ None → FailsEach rows
fails_each [] none = tt
fails_each (row ∷ rows) none = let step = row_fails row rows row.holds refl none in (step.0, fails_each rows step.1)

pub holds_of_not : (b : Bool) → not b ≡ false → b ≡ true
holds_of_not true e = refl
holds_of_not false e = absurd cc

pub text_is : (o : Option (List ℕ)) (wanted : List ℕ) → some_passes (λ text. bytes_eq text wanted) o ≡ true → o ≡ Some wanted
text_is None wanted e = absurd cc
text_is (Some text) wanted e = ap Some ((bytes_eq-Decides text wanted).0 e)

and_true : (a b : Bool) → (a && b) ≡ true → (a ≡ true) × (b ≡ true)
and_true true b e = (refl, e)
and_true false b e = absurd cc

among : (names : List (List ℕ)) (name : List ℕ) → is_among names name ≡ true → Contains names name
among names name e = Contains-from_any (λ x y same. (bytes_eq-Decides x y).0 same) name names e

none_passes : (algs : List Alg) (alg : Alg) → list_any is_hmac_alg algs ≡ false → Contains algs alg → is_hmac_alg alg ≡ false
none_passes algs alg none has = by (is_hmac_alg alg) refl
  where
    by : (b : Bool) → is_hmac_alg alg ≡ b → is_hmac_alg alg ≡ false
    by false is = is
    by true is = absurd (true≢false (sym (list_any_at is_hmac_alg algs has.0 alg has.1 (ap is_hmac_alg has.2 ∙ is)) ∙ none))

has_age : (o : Option ℕ) → is_none o ≡ false → (age : ℕ) × (o ≡ Some age)
has_age None e = absurd cc
has_age (Some age) e = (age, refl)

pub is_proof_policy : (policy : Settings) → first_row (policy_rows policy) ≡ None → IsProofPolicy policy
is_proof_policy policy none =
    let fails = fails_each (policy_rows policy) none in
    let names = policy.claims.required in
    let all = holds_of_not (requires_all policy) fails.1.1.0 in
    let jti = and_true (is_among names (codes "jti")) (is_among names (codes "htm") && (is_among names (codes "htu") && is_among names (codes "iat"))) all in
    let htm = and_true (is_among names (codes "htm")) (is_among names (codes "htu") && is_among names (codes "iat")) jti.1 in
    let htu = and_true (is_among names (codes "htu")) (is_among names (codes "iat")) htm.1 in
    record {
      typ = text_is policy.header.typ (codes "dpop+jwt") (holds_of_not (some_passes (λ typ. bytes_eq typ (codes "dpop+jwt")) policy.header.typ) fails.0);
      asymmetric = λ alg has. none_passes policy.run.algs alg fails.1.0 has;
      jti = among names (codes "jti") jti.0;
      htm = among names (codes "htm") htm.0;
      htu = among names (codes "htu") htu.0;
      iat = among names (codes "iat") htu.1;
      aged = has_age policy.claims.max_age fails.1.1.1.0;
    }
