-- The table of rows of why claims don't meet a rule. The law `denials_are_said` says its answer in words.
use Rattle.std.specs.Prelude.{ℕ, List, [], ◌∷◌, ◌++◌, map, not, is_none, is_some, Option, None, option_and_then}
use Rattle.std.specs.Option.{option_or}
use Rattle.std.specs.Str.{bytes_eq}
use Rattle.serde_json.specs.Data.{Data, Members}
use Rattle.jwt_text.specs.Rows.{Row, ◌⇒◌, first_row}
use Rattle.jwt_policy.specs.Checks.{is_later}
use Rattle.jwt_policy.specs.Texts.{some_passes}
use Rattle.jwt_access.specs.Rules.{Demand, Asked, absent, only, an_object, aged, ascii, Further, Rule, further_of}
use Rattle.jwt_access.specs.Pointers.{claim_at}
use Rattle.jwt_access.specs.Scopes.{grants}
use Rattle.jwt_access.specs.Claims.{is_allowed, has_only, is_object, is_ascii, date_in, is_older}
use Rattle.jwt_access.specs.declared.moment.Moment.{Moment}
use Rattle.jwt_access.specs.declared.denial.Denial.{Denial}
use Rattle.jwt_access.specs.declared.denial.Denial.TheVariants.{ScopeMissing, ClaimMissing, ClaimNotAllowed, ClaimPresent, ClaimHasOther, ClaimNotObject, ClaimNotDate, ClaimLater, ClaimTooOld, ClaimNotAscii}

-- a scope that the claim that carries scopes doesn't grant
abbrev pub scope_row : List ℕ → Members → List ℕ → Row Denial
scope_row scope_claim claims scope = not (some_passes (grants scope) (claim_at scope_claim claims)) ⇒ ScopeMissing scope

-- a claim that is absent, or has no value that is allowed
abbrev pub demand_rows : List ℕ → Members → Demand → List (Row Denial)
demand_rows scope_claim claims demand =
    (is_none (claim_at demand.name claims) ⇒ ClaimMissing demand.name)
    ∷ (not (some_passes (is_allowed (bytes_eq demand.name scope_claim) demand.allowed) (claim_at demand.name claims)) ⇒ ClaimNotAllowed demand.name)
    ∷ []

abbrev pub demands_rows : List ℕ → Members → List Demand → List (Row Denial)
demands_rows scope_claim claims [] = []
demands_rows scope_claim claims (demand ∷ demands) = demand_rows scope_claim claims demand ++ demands_rows scope_claim claims demands

-- the scopes in their order, then the claims in theirs
abbrev pub denial_rows : Rule → Members → List (Row Denial)
denial_rows rule claims = map (scope_row rule.scope_claim claims) rule.scopes ++ demands_rows rule.scope_claim claims rule.claims

-- ---- what else is asked

-- a claim that is there and isn't to be; or one that is absent, or isn't as is asked
abbrev pub asked_rows : Moment → List ℕ → Asked → Option Data → List (Row Denial)
asked_rows moment name absent claim = (is_some claim ⇒ ClaimPresent name) ∷ []
asked_rows moment name (only allowed) claim = (is_none claim ⇒ ClaimMissing name) ∷ (not (some_passes (has_only allowed) claim) ⇒ ClaimHasOther name) ∷ []
asked_rows moment name an_object claim = (is_none claim ⇒ ClaimMissing name) ∷ (not (some_passes is_object claim) ⇒ ClaimNotObject name) ∷ []
asked_rows moment name (aged age) claim =
    (is_none claim ⇒ ClaimMissing name)
    ∷ (is_none (option_and_then date_in claim) ⇒ ClaimNotDate name)
    ∷ (some_passes (is_later moment.now moment.leeway) (option_and_then date_in claim) ⇒ ClaimLater name)
    ∷ (some_passes (is_older moment age) (option_and_then date_in claim) ⇒ ClaimTooOld name)
    ∷ []
asked_rows moment name (ascii most) claim = (is_none claim ⇒ ClaimMissing name) ∷ (not (some_passes (is_ascii most) claim) ⇒ ClaimNotAscii name) ∷ []

-- the first that isn't met, if any
abbrev pub first_unasked : Moment → Members → List Further → Option Denial
first_unasked moment claims [] = None
first_unasked moment claims (further ∷ rest) =
    option_or (first_row (asked_rows moment further.name further.asked (claim_at further.name claims))) (first_unasked moment claims rest)

-- ---- all

-- the first scope or demand that isn't met, if any
unfoldable pub claims_denial_of : Rule → Members → Option Denial
claims_denial_of rule claims = first_row (denial_rows rule claims)

-- that, or the first of what else is asked that isn't met, if any
unfoldable pub denial_of : Rule → Moment → Members → Option Denial
denial_of rule moment claims = option_or (claims_denial_of rule claims) (first_unasked moment claims (further_of rule))
