-- The members of a rule's document by kind and range: a value, or the fault Member where the kind is wrong, else Range; the same of
-- the claims that it names, by the faults Claim and ClaimRange.
use Rattle.std.specs.Prelude.{ℕ, List, [], ◌∷◌, codes, if◌then◌else◌, Option, Some, None, option_map, option_and_then, Result, Ok}
use Rattle.std.specs.Option.{option_or}
use Rattle.std.specs.List.{list_all}
use Rattle.serde_json.specs.Data.{Data, Members}
use Rattle.serde_json.specs.Find.{as_str, as_bool, as_number, as_i64}
use Rattle.jwt_text.specs.Answers.{some_or, each, ◌>>=◌}
use Rattle.jwt_text.specs.Members.{has, text_at, whole_at, list_at, object_at, member_names}
use Rattle.jwt_policy.specs.MemberKinds.{all_some, between}
use Rattle.jwt_access.specs.Rules.{Allowed, text, flag, whole, Demand, Asked, only, aged, ascii, Further}
use Rattle.jwt_access.specs.Pointers.{path_of}
use Rattle.jwt_access.specs.Scopes.{is_scope}
use Rattle.jwt_access.specs.declared.access_fault.AccessFault.{AccessFault}
use Rattle.jwt_access.specs.declared.access_fault.AccessFault.TheVariants as fault

-- ---- scopes

abbrev pub all_scopes : List (List ℕ) → Option (List (List ℕ))
all_scopes texts = if list_all is_scope texts then Some texts else None

-- a list of scope tokens
abbrev pub scopes_of : List ℕ → Members → Result (List (List ℕ)) AccessFault
scopes_of name members =
    some_or (fault.Member name) (option_and_then (all_some as_str) (list_at name members))
    >>= λ texts. some_or (fault.Range name) (all_scopes texts)

-- empty where it is absent
abbrev pub scopes_in : List ℕ → Members → Result (List (List ℕ)) AccessFault
scopes_in name members = if has name members then scopes_of name members else Ok []

-- ---- the claim that carries scopes

-- a name that has a path
abbrev pub with_path : List ℕ → Option (List ℕ)
with_path name = option_map (λ path. name) (path_of name)

-- `scope` where it is absent
abbrev pub scope_claim_name : List ℕ → Members → Result (List ℕ) AccessFault
scope_claim_name name members = if has name members then some_or (fault.Member name) (text_at name members) else Ok (codes "scope")

abbrev pub scope_claim_in : List ℕ → Members → Result (List ℕ) AccessFault
scope_claim_in name members = scope_claim_name name members >>= λ claim. some_or (fault.Range name) (with_path claim)

-- ---- claims

-- a text, true or false, or a whole number within 64 signed bits
abbrev pub allowed_of : Data → Option Allowed
allowed_of value =
    option_or (option_map text (as_str value))
    (option_or (option_map flag (as_bool value)) (option_map whole (option_and_then as_i64 (as_number value))))

abbrev pub not_empty : List Allowed → Option (List Allowed)
not_empty [] = None
not_empty (value ∷ values) = Some (value ∷ values)

-- what is asked of the claim of this name: it has a path, and a list of values, not empty
abbrev pub demand_of : Members → List ℕ → Result Demand AccessFault
demand_of members name =
    some_or (fault.ClaimRange name) (path_of name)
    >>= λ path. some_or (fault.Claim name) (option_and_then (all_some allowed_of) (list_at name members))
    >>= λ values. some_or (fault.ClaimRange name) (not_empty values)
    >>= λ values. Ok (record { name = name; allowed = values })

-- of each, in ascending octet order of their names
abbrev pub demands_of : Members → Result (List Demand) AccessFault
demands_of members = each (λ place name. demand_of members name) 0 (member_names members)

-- none where they are absent
abbrev pub demands_in : List ℕ → Members → Result (List Demand) AccessFault
demands_in name members = if has name members then (some_or (fault.Member name) (object_at name members) >>= demands_of) else Ok []

-- ---- what else is asked

-- this is asked of the claim of this name, which has a path
abbrev pub named : Asked → List ℕ → Result Further AccessFault
named asked name = some_or (fault.ClaimRange name) (path_of name) >>= λ path. Ok (record { name = name; asked = asked })

-- the same of each of these, in their order
abbrev pub each_named : Asked → List (List ℕ) → Result (List Further) AccessFault
each_named asked names = each (λ place name. named asked name) 0 names

-- the same of each name of a list, none where it is absent
abbrev pub names_in : Asked → List ℕ → Members → Result (List Further) AccessFault
names_in asked name members =
    if has name members then (some_or (fault.Member name) (option_and_then (all_some as_str) (list_at name members)) >>= each_named asked) else Ok []

-- a list of values that are allowed, not empty
abbrev pub only_of : Members → List ℕ → Result Asked AccessFault
only_of members name =
    some_or (fault.Claim name) (option_and_then (all_some allowed_of) (list_at name members))
    >>= λ values. some_or (fault.ClaimRange name) (not_empty values)
    >>= λ values. Ok (only values)

-- a whole number from 0 to 2^32 - 1
abbrev pub count_of : Members → List ℕ → Result ℕ AccessFault
count_of members name = some_or (fault.Claim name) (whole_at name members) >>= λ number. some_or (fault.ClaimRange name) (between 0 4294967295 number)

-- so many seconds
abbrev pub age_of : Members → List ℕ → Result Asked AccessFault
age_of members name = count_of members name >>= λ seconds. Ok (aged seconds)

-- so many octets
abbrev pub ascii_of : Members → List ℕ → Result Asked AccessFault
ascii_of members name = count_of members name >>= λ octets. Ok (ascii octets)

-- what is asked of the claim of this name, by its value, after its path
abbrev pub further_in : (Members → List ℕ → Result Asked AccessFault) → Members → List ℕ → Result Further AccessFault
further_in asked_in members name = some_or (fault.ClaimRange name) (path_of name) >>= λ path. asked_in members name >>= λ asked. Ok (record { name = name; asked = asked })

-- of each, in ascending octet order of their names
abbrev pub each_further : (Members → List ℕ → Result Asked AccessFault) → Members → Result (List Further) AccessFault
each_further asked_in members = each (λ place name. further_in asked_in members name) 0 (member_names members)

-- none where they are absent
abbrev pub values_in : (Members → List ℕ → Result Asked AccessFault) → List ℕ → Members → Result (List Further) AccessFault
values_in asked_in name members = if has name members then (some_or (fault.Member name) (object_at name members) >>= each_further asked_in) else Ok []
