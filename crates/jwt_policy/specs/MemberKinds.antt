-- The members of a policy document by kind and range: a value, or the fault Member where the kind is wrong, else Range.
use Rattle.std.specs.Prelude.{ℕ, ℤ, pos, negsuc, List, [], ◌∷◌, codes, Bool, false, ◌||◌, ◌&&◌, nat_le, if◌then◌else◌, Option, Some, None, option_map, option_and_then, Result, Ok, Err}
use Rattle.std.specs.List.{list_any}
use Rattle.std.specs.Str.{bytes_eq}
use Rattle.serde_json.specs.Data.{Members}
use Rattle.serde_json.specs.Find.{as_str}
use Rattle.jwt_mac.specs.declared.algorithm.Alg.{Alg}
use Rattle.jwt_mac.specs.Algorithm.{alg_named}
use Rattle.jwt_text.specs.Answers.{some_or, ◌>>=◌}
use Rattle.jwt_text.specs.Members.{has, text_at, whole_at, flag_at, list_at}
use Rattle.jwt_policy.specs.Texts.{is_among}
use Rattle.jwt_policy.specs.Bars.{registered_names}
use Rattle.jwt_policy.specs.declared.mode.Mode.{Mode}
use Rattle.jwt_policy.specs.declared.mode.Mode.TheVariants.{Any, All}
use Rattle.jwt_policy.specs.declared.policy_fault.PolicyFault.{PolicyFault}
use Rattle.jwt_policy.specs.declared.policy_fault.PolicyFault.TheVariants as fault

-- the member's value, where it is of the kind
abbrev pub kind_or : {A : Type 0} → List ℕ → Option A → Result A PolicyFault
kind_or name o = some_or (fault.Member name) o

-- the member's value, where it is in the range
abbrev pub range_or : {A : Type 0} → List ℕ → Option A → Result A PolicyFault
range_or name o = some_or (fault.Range name) o

-- a member, or its default where it is absent
abbrev pub present_or : {A : Type 0} → A → (List ℕ → Members → Result A PolicyFault) → List ℕ → Members → Result A PolicyFault
present_or default read name ms = if has name ms then read name ms else Ok default

-- a member, or none where it is absent
abbrev pub optional : {A : Type 0} → (List ℕ → Members → Result A PolicyFault) → List ℕ → Members → Result (Option A) PolicyFault
optional read name ms = if has name ms then (read name ms >>= λ value. Ok (Some value)) else Ok None

-- ---- whole numbers, truth values, texts

abbrev pub between : ℕ → ℕ → ℤ → Option ℕ
between low high (pos n) = if nat_le low n && nat_le n high then Some n else None
between low high (negsuc n) = None

-- a whole number from low to high
abbrev pub whole_of : ℕ → ℕ → List ℕ → Members → Result ℕ PolicyFault
whole_of low high name ms = kind_or name (whole_at name ms) >>= λ z. range_or name (between low high z)

abbrev pub whole_in : ℕ → ℕ → ℕ → List ℕ → Members → Result ℕ PolicyFault
whole_in low high default name ms = present_or default (whole_of low high) name ms

-- true or false
abbrev pub flag_in : List ℕ → Members → Result Bool PolicyFault
flag_in name ms = present_or false (λ n ms. kind_or n (flag_at n ms)) name ms

abbrev pub mode_named : List ℕ → Option Mode
mode_named t = if bytes_eq t (codes "any") then Some Any else (if bytes_eq t (codes "all") then Some All else None)

abbrev pub mode_in : List ℕ → Members → Result Mode PolicyFault
mode_in name ms = present_or Any (λ n ms. kind_or n (text_at n ms) >>= λ t. range_or n (mode_named t)) name ms

abbrev pub not_empty : List ℕ → Option (List ℕ)
not_empty [] = None
not_empty (c ∷ t) = Some (c ∷ t)

-- a text that isn't empty
abbrev pub typ_in : List ℕ → Members → Result (Option (List ℕ)) PolicyFault
typ_in name ms = optional (λ n ms. kind_or n (text_at n ms) >>= λ t. range_or n (not_empty t)) name ms

-- ---- lists of texts

-- the value of each, where each has one
abbrev pub all_some : {A B : Type 0} → (A → Option B) → List A → Option (List B)
all_some f [] = Some []
all_some f (x ∷ xs) = option_and_then (λ y. option_map (λ ys. y ∷ ys) (all_some f xs)) (f x)

abbrev pub texts_at : List ℕ → Members → Option (List (List ℕ))
texts_at name ms = option_and_then (all_some as_str) (list_at name ms)

abbrev pub texts_of : List ℕ → Members → Result (List (List ℕ)) PolicyFault
texts_of name ms = kind_or name (texts_at name ms)

abbrev pub texts_in : List ℕ → Members → Result (List (List ℕ)) PolicyFault
texts_in name ms = present_or [] texts_of name ms

-- a registered header name, or `b64`
abbrev pub is_reserved : List ℕ → Bool
is_reserved t = is_among registered_names t || bytes_eq t (codes "b64")

abbrev pub unreserved : List (List ℕ) → Option (List (List ℕ))
unreserved ts = if list_any is_reserved ts then None else Some ts

-- texts that are all free for `crit`
abbrev pub understood_in : List ℕ → Members → Result (List (List ℕ)) PolicyFault
understood_in name ms = texts_in name ms >>= λ ts. range_or name (unreserved ts)

abbrev pub algs_named : List ℕ → List (List ℕ) → Result (List Alg) PolicyFault
algs_named name [] = Err fault.NoAlgorithm
algs_named name (t ∷ ts) = range_or name (all_some alg_named (t ∷ ts))

-- names of algorithms; where the list is absent or empty, there is no algorithm
abbrev pub algs_in : List ℕ → Members → Result (List Alg) PolicyFault
algs_in name ms = if has name ms then (texts_of name ms >>= algs_named name) else Err fault.NoAlgorithm
