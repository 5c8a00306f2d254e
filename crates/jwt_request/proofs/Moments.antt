-- The moments of a history, and the ages that 64 bits count.
use Rattle.std.proofs.Common.{◌≡◌, ◌↔◌, ◌<◌, ◌≤◌, ◌+◌, ◌-◌, ◌^◌, ℕ, min, List, [], ◌∷◌, Option, None, Some, arith}
use Rattle.std.specs.List.{All}
use Rattle.std.proofs.lemmas.List.Elements.{All-nil, All-cons, All-head}
use Rattle.jwt_request.specs.renewal.History.{Event, passed, began, took, failed, waits, moment, beginnings, newest, keys_since}
use Rattle.jwt_request.specs.renewal.Rules.{IsWithin}
use Rattle.jwt_request.specs.renewal.Standing.{age}

-- the first of the moments is the newest, and none is after now
abbrev pub Led : List ℕ → ℕ → Type 0
Led [] now = Unit {0}
Led (m ∷ ms) now = (m ≤ now) × All (λ b. b ≤ m) ms

pub led_later : (ms : List ℕ) (now d : ℕ) → Led ms now → Led ms (now + d)
led_later [] now d l = tt
led_later (m ∷ ms) now d l = (omega (arith, l.0), l.1)

led_all : (ms : List ℕ) (now : ℕ) → Led ms now → All (λ b. b ≤ now) ms
led_all [] now l = All-nil _
led_all (m ∷ ms) now l = All-cons (λ b. b ≤ now) m ms l.0 (λ k d in_list. omega (arith, l.0, l.1 k d in_list))

pub led : (h : List Event) → Led (beginnings h) (moment h)
led [] = tt
led (passed d ∷ h) = led_later (beginnings h) (moment h) d (led h)
led (began a t ∷ h) = (omega arith, led_all (beginnings h) (moment h) (led h))
led (took ∷ h) = led h
led (waits n ∷ h) = led h
led (failed ∷ h) = led h

-- a moment that isn't after now, where there is one
abbrev pub IsPast : Option ℕ → ℕ → Type 0
IsPast None now = Unit {0}
IsPast (Some since) now = since ≤ now

past_later : (o : Option ℕ) (now d : ℕ) → IsPast o now → IsPast o (now + d)
past_later None now d p = tt
past_later (Some since) now d p = omega (arith, p)

pub newest_past : (ms : List ℕ) (now : ℕ) → Led ms now → IsPast (newest ms) now
newest_past [] now l = tt
newest_past (m ∷ ms) now l = l.0

pub begun_past : (h : List Event) → IsPast (newest (beginnings h)) (moment h)
begun_past h = newest_past (beginnings h) (moment h) (led h)

pub keys_past : (h : List Event) → IsPast (keys_since h) (moment h)
keys_past [] = tt
keys_past (passed d ∷ h) = past_later (keys_since h) (moment h) d (keys_past h)
keys_past (began a t ∷ h) = keys_past h
keys_past (took ∷ h) = begun_past h
keys_past (waits n ∷ h) = keys_past h
keys_past (failed ∷ h) = keys_past h

-- an age grows by what passes
pub age_later : (o : Option ℕ) (now d : ℕ) → IsPast o now → min (age o now + d) (2 ^ 64 - 1) ≡ age o (now + d)
age_later None now d p = omega arith
age_later (Some since) now d p = omega (arith, p)

-- what 64 bits count is enough to say whether it is within a span
pub within : (o : Option ℕ) (now span : ℕ) → span < 2 ^ 64 → (age o now < span) ↔ IsWithin span o now
within None now span small = (λ young. omega (arith, young, small), λ never. absurd never)
within (Some since) now span small = (λ young. omega (arith, young, small), λ young. omega (arith, young))

-- all are a span ago where the newest is
pub all_ago : (ms : List ℕ) (now span : ℕ) → Led ms now → span < 2 ^ 64 → (span ≤ age (newest ms) now) ↔ All (λ b. span ≤ now - b) ms
all_ago [] now span l small = (λ ago. All-nil _, λ ago. omega (arith, small))
all_ago (m ∷ ms) now span l small = (
  λ ago. All-cons (λ b. span ≤ now - b) m ms (omega (arith, ago)) (λ k d in_list. omega (arith, ago, l.1 k d in_list)),
  λ ago. omega (arith, small, All-head (λ b. span ≤ now - b) m ms ago),
)

-- what is younger than a span grows older than it in that span
pub not_within : (o : Option ℕ) (now more span : ℕ) → IsPast o now → span ≤ more → IsWithin span o (now + more) → ⊥
not_within None now more span past enough young = young
not_within (Some since) now more span past enough young = omega (arith, past, enough, young)
