-- The scope or the demand that is the first that claims don't meet, in words.
use Rattle.std.specs.Prelude.{◌≡◌, ◌<◌, ◌⊎◌, ℕ, ℤ, List, Some, slice_get}
use Rattle.std.specs.List.{Contains}
use Rattle.serde_json.specs.Data.{Data, Members}
use Rattle.jwt_access.specs.Rules.{Demand, Asked, absent, only, an_object, aged, ascii, Further, Rule, further_of}
use Rattle.jwt_access.specs.Granted.{IsClaim, HasScope, IsMet, HasOnly, IsObject, IsAscii, IsDate, IsReachedBy, IsWithin, IsAsked}
use Rattle.jwt_access.specs.declared.moment.Moment.{Moment}
use Rattle.jwt_access.specs.declared.denial.Denial.{Denial}
use Rattle.jwt_access.specs.declared.denial.Denial.TheVariants.{ScopeMissing, ClaimMissing, ClaimNotAllowed, ClaimPresent, ClaimHasOther, ClaimNotObject, ClaimNotDate, ClaimLater, ClaimTooOld, ClaimNotAscii}

-- the scopes before this place are granted
abbrev pub GrantedBefore : ℕ → Rule → Members → Type 0
GrantedBefore place rule members = (earlier : ℕ) (scope : List ℕ) → earlier < place → slice_get rule.scopes earlier ≡ Some scope → HasScope rule.scope_claim members scope

-- the demand at this place is this one, and each before it is met; so is each scope granted
pub record IsReached (rule : Rule) (members : Members) (place : ℕ) (demand : Demand) : Type 0 where
  pub is : slice_get rule.claims place ≡ Some demand
  pub scopes : (at : ℕ) (scope : List ℕ) → slice_get rule.scopes at ≡ Some scope → HasScope rule.scope_claim members scope
  pub before : (at : ℕ) (earlier : Demand) → at < place → slice_get rule.claims at ≡ Some earlier → IsMet rule.scope_claim members earlier

-- The first scope that isn't granted; or, where each is, of the first demand that isn't met its name, and whether the claim is absent.
abbrev pub IsClaimsDenial : Rule → Members → Denial → Type 0
IsClaimsDenial rule members (ScopeMissing scope) =
    (place : ℕ) × (slice_get rule.scopes place ≡ Some scope) × ¬ HasScope rule.scope_claim members scope × GrantedBefore place rule members
IsClaimsDenial rule members (ClaimMissing name) =
    (place : ℕ) × (demand : Demand) × IsReached rule members place demand × (name ≡ demand.name) × ((value : Data) → ¬ IsClaim name members value)
IsClaimsDenial rule members (ClaimNotAllowed name) =
    (place : ℕ) × (demand : Demand) × (value : Data) × IsReached rule members place demand × (name ≡ demand.name) × IsClaim name members value
    × ¬ IsMet rule.scope_claim members demand
IsClaimsDenial _ _ _ = ⊥

-- ---- what else is asked

-- why the value of a claim isn't as is asked
abbrev pub IsAmiss : Moment → List ℕ → Asked → Data → Denial → Type 0
IsAmiss moment name absent value denial = denial ≡ ClaimPresent name
IsAmiss moment name (only allowed) value denial = (denial ≡ ClaimHasOther name) × ¬ HasOnly allowed value
IsAmiss moment name an_object value denial = (denial ≡ ClaimNotObject name) × ¬ IsObject value
IsAmiss moment name (aged age) value denial =
    ((denial ≡ ClaimNotDate name) × ((date : ℤ) → ¬ IsDate value date))
    ⊎ ((date : ℤ) × IsDate value date × (denial ≡ ClaimLater name) × ¬ IsReachedBy moment date)
    ⊎ ((date : ℤ) × IsDate value date × (denial ≡ ClaimTooOld name) × IsReachedBy moment date × ¬ IsWithin moment age date)
IsAmiss moment name (ascii most) value denial = (denial ≡ ClaimNotAscii name) × ¬ IsAscii most value

-- why a claim that is absent isn't as is asked
abbrev pub IsLacked : List ℕ → Asked → Denial → Type 0
IsLacked name absent denial = ⊥
IsLacked name (only allowed) denial = denial ≡ ClaimMissing name
IsLacked name an_object denial = denial ≡ ClaimMissing name
IsLacked name (aged age) denial = denial ≡ ClaimMissing name
IsLacked name (ascii most) denial = denial ≡ ClaimMissing name

-- why the claim of this name isn't as is asked
abbrev pub IsUnmet : Moment → Members → List ℕ → Asked → Denial → Type 0
IsUnmet moment members name asked denial =
    (((value : Data) → ¬ IsClaim name members value) × IsLacked name asked denial)
    ⊎ ((value : Data) × IsClaim name members value × IsAmiss moment name asked value denial)

-- what else is asked at this place is this, and all before it is met; so is each scope granted, and each demand met
pub record IsReachedFurther (rule : Rule) (moment : Moment) (members : Members) (place : ℕ) (further : Further) : Type 0 where
  pub is : slice_get (further_of rule) place ≡ Some further
  pub scopes : (scope : List ℕ) → Contains rule.scopes scope → HasScope rule.scope_claim members scope
  pub claims : (demand : Demand) → Contains rule.claims demand → IsMet rule.scope_claim members demand
  pub before : (at : ℕ) (earlier : Further) → at < place → slice_get (further_of rule) at ≡ Some earlier → IsAsked moment members earlier.name earlier.asked

-- that of scopes and demands; or, where all of them are met, why the first of what else is asked isn't
abbrev pub IsDenial : Rule → Moment → Members → Denial → Type 0
IsDenial rule moment members denial =
    IsClaimsDenial rule members denial
    ⊎ ((place : ℕ) × (further : Further) × IsReachedFurther rule moment members place further × IsUnmet moment members further.name further.asked denial)
