-- The text of a challenge of DPoP, as it is put together of its parts.
use Rattle.std.proofs.Common.{◌≡◌, ◌∷◌, ◌++◌, [], ℕ, List, sym, ap, ◌∙◌}
use Rattle.std.specs.Prelude.{codes}
use Rattle.std.proofs.lemmas.List.{append_assoc}
use Rattle.jwt_request.specs.Challenges.{quoted}

-- three texts behind another one
behind : (text first second third : List ℕ) → text ++ first ++ second ++ third ≡ text ++ (first ++ (second ++ third))
behind text first second third = append_assoc (text ++ first) second third ∙ append_assoc text first (second ++ third)

pub plain_text : (algs : List ℕ) → algs ++ 34 ∷ [] ++ [] ++ [] ≡ algs ++ 34 ∷ []
plain_text algs = behind algs (34 ∷ []) [] []

pub error_text : (algs name : List ℕ) → algs ++ (34 ∷ (codes ", error=" ++ 34 ∷ [])) ++ name ++ 34 ∷ []
    ≡ (algs ++ 34 ∷ []) ++ codes ", error=" ++ quoted name
error_text algs name =
    behind algs (34 ∷ (codes ", error=" ++ 34 ∷ [])) name (34 ∷ []) ∙ sym (behind algs (34 ∷ []) (codes ", error=") (quoted name))

-- the error of a scope, and what it is behind
abbrev pub scope_error : List ℕ
scope_error = codes ", error=" ++ quoted (codes "insufficient_scope") ++ codes ", scope="

pub scope_text : (algs scope : List ℕ) → algs ++ (34 ∷ (scope_error ++ 34 ∷ [])) ++ scope ++ 34 ∷ []
    ≡ (algs ++ 34 ∷ []) ++ codes ", error=" ++ quoted (codes "insufficient_scope") ++ codes ", scope=" ++ quoted scope
scope_text algs scope =
    let first = append_assoc (algs ++ 34 ∷ []) (codes ", error=") (quoted (codes "insufficient_scope")) in
    let second = append_assoc (algs ++ 34 ∷ []) (codes ", error=" ++ quoted (codes "insufficient_scope")) (codes ", scope=") in
    behind algs (34 ∷ (scope_error ++ 34 ∷ [])) scope (34 ∷ [])
    ∙ sym (behind algs (34 ∷ []) scope_error (quoted scope))
    ∙ sym (ap (λ x. x ++ quoted scope) (ap (λ x. x ++ codes ", scope=") first ∙ second))
