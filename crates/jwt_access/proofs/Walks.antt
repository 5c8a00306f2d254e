-- What stands at the end of a pointer, token by token.
use Rattle.std.proofs.Common.{◌≡◌, ◌≢◌, ℕ, ◌==◌, List, [], ◌∷◌, ◌++◌, Option, Some, None, option_and_then, option_map, refl, ap, ◌∙◌, eq-eqb, ne_eqb}
use Rattle.std.proofs.lemmas.List.Splits.{slice_split_none, slice_split_at}
use Rattle.serde_json.specs.Data.{Members}
use Rattle.serde_json.specs.Find.{as_object, get_member}
use Rattle.jwt_policy.specs.MemberKinds.{all_some}
use Rattle.jwt_access.specs.Pointers.{value_at, unescaped, path_of, claim_at}
use Rattle.jwt_access.proofs.Splits.{cut, cut_some}
use Rattle.jwt_access.specs.expected.Views.{Lacks, member_of, walked}

-- ---- the path of one token and more

nowhere : (o : Option Members) → None ≡ option_and_then (λ home. option_and_then (λ path. value_at path home) None) o
nowhere None = refl
nowhere (Some home) = refl

more_by : (ms : Members) (o : Option (List ℕ)) (u : Option (List ℕ)) (us : Option (List (List ℕ)))
    → option_and_then (λ path. value_at path ms) (option_and_then (λ y. option_map (λ ys. y ∷ ys) (option_and_then (λ z. option_map (λ zs. z ∷ zs) us) u)) o)
    ≡ option_and_then (λ home. option_and_then (λ path. value_at path home) (option_and_then (λ z. option_map (λ zs. z ∷ zs) us) u)) (option_and_then as_object (option_and_then (λ name. get_member name ms) o))
more_by ms None u us = refl
more_by ms (Some name) None us = nowhere (option_and_then as_object (get_member name ms))
more_by ms (Some name) (Some next) None = nowhere (option_and_then as_object (get_member name ms))
more_by ms (Some name) (Some next) (Some path) = refl

more_of : (ms : Members) (token : List ℕ) (ts : List (List ℕ)) → ts ≢ [] → option_and_then (λ path. value_at path ms) (all_some unescaped (token ∷ ts)) ≡ option_and_then (λ home. option_and_then (λ path. value_at path home) (all_some unescaped ts)) (option_and_then as_object (member_of token ms))
more_of ms token [] some = absurd (some refl)
more_of ms token (t ∷ ts) some = more_by ms (unescaped token) (unescaped t) (all_some unescaped ts)

pub walked_more : (text token more : List ℕ) (ms : Members) → text ≡ token ++ 47 ∷ more → Lacks 47 token → walked text ms ≡ option_and_then (λ home. walked more home) (option_and_then as_object (member_of token ms))
walked_more text token more ms is h =
    ap (λ t. walked t ms) is
    ∙ ap (λ ts. option_and_then (λ path. value_at path ms) (all_some unescaped ts)) (slice_split_at (λ c. c == 47) token 47 more h (eq-eqb 47 47 refl))
    ∙ more_of ms token (cut 47 more) (cut_some 47 more)

last_by : (ms : Members) (o : Option (List ℕ)) → option_and_then (λ path. value_at path ms) (option_and_then (λ y. Some (y ∷ [])) o) ≡ option_and_then (λ name. get_member name ms) o
last_by ms None = refl
last_by ms (Some name) = refl

pub walked_last : (text : List ℕ) (ms : Members) → Lacks 47 text → walked text ms ≡ member_of text ms
walked_last text ms h = ap (λ ts. option_and_then (λ path. value_at path ms) (all_some unescaped ts)) (slice_split_none (λ c. c == 47) text h) ∙ last_by ms (unescaped text)

-- ---- a name

pub at_pointer : (tokens : List ℕ) (ms : Members) → claim_at (47 ∷ tokens) ms ≡ walked tokens ms
unfolding path_of
at_pointer tokens ms = refl

pub at_name : (name : List ℕ) (ms : Members) → ((rest : List ℕ) → name ≢ 47 ∷ rest) → claim_at name ms ≡ get_member name ms
unfolding path_of
at_name [] ms h = refl
at_name (c ∷ rest) ms h = rw (ne_eqb c 47 (λ e. h rest (ap (λ k. k ∷ rest) e))) refl
