-- After how much time more something is so.
use Rattle.std.proofs.Common.{◌≡◌, ◌↔◌, ◌<◌, ◌≤◌, ◌+◌, ◌-◌, ◌^◌, ℕ, min, Bool, true, List, Option, None, Some, arith, inl, inr}
use Rattle.std.specs.List.{All}
use Rattle.std.proofs.lemmas.Bool.{cases_lt}
use Rattle.jwt_request.specs.renewal.History.{newest}
use Rattle.jwt_request.specs.renewal.Rules.{IsWithin}
use Rattle.jwt_request.specs.renewal.Standing.{age}
use Rattle.jwt_request.proofs.Moments.{IsPast, Led, led_later, newest_past, age_later, all_ago}

both : (o : Option ℕ) (now more refresh most : ℕ) → IsPast o now → refresh < 2 ^ 64 → more < min refresh most - age o now → IsWithin most o (now + more) × IsWithin refresh o (now + more)
both None now more refresh most past small soon = absurd (omega (arith, small, soon))
both (Some since) now more refresh most past small soon = (omega (arith, past, small, soon), omega (arith, past, small, soon))

not_both : (o : Option ℕ) (now more refresh most : ℕ) → IsPast o now → min refresh most - age o now ≤ more → IsWithin most o (now + more) × IsWithin refresh o (now + more) → ⊥
not_both None now more refresh most past late young = young.0
not_both (Some since) now more refresh most past late young = omega (arith, past, late, young.0, young.1)

pub stale_when : (o : Option ℕ) (now more refresh most : ℕ) → IsPast o now → refresh < 2 ^ 64
    → (min refresh most - age o now ≤ more) ↔ (¬ (IsWithin most o (now + more) × IsWithin refresh o (now + more)))
stale_when o now more refresh most past small = (
  not_both o now more refresh most past,
  λ never. elim (cases_lt more (min refresh most - age o now)) [ inl soon ↦ absurd (never (both o now more refresh most past small soon)) | inr late ↦ late ],
)

pub cool_when : (ms : List ℕ) (now more span : ℕ) → Led ms now → span < 2 ^ 64
    → (span - age (newest ms) now ≤ more) ↔ All (λ b. span ≤ now + more - b) ms
cool_when ms now more span l small =
    let ago = all_ago ms (now + more) span (led_later ms now more l) small in
    let grown : min (age (newest ms) now + more) (2 ^ 64 - 1) ≡ age (newest ms) (now + more) = age_later (newest ms) now more (newest_past ms now l) in (
      λ late. ago.0 (omega (arith, grown, late, small)),
      λ all. let enough : span ≤ age (newest ms) (now + more) = ago.1 all in omega (arith, grown, enough),
    )

over : (o : Option ℕ) (now more span : ℕ) → IsPast o now → span < 2 ^ 64 → more < span - age o now → IsWithin span o (now + more)
over None now more span past small soon = absurd (omega (arith, small, soon))
over (Some since) now more span past small soon = omega (arith, past, small, soon)

not_over : (o : Option ℕ) (now more span : ℕ) → IsPast o now → span - age o now ≤ more → IsWithin span o (now + more) → ⊥
not_over None now more span past late young = young
not_over (Some since) now more span past late young = omega (arith, past, late, young)

pub over_when : (unended : Bool) (o : Option ℕ) (now more span : ℕ) → unended ≡ true → IsPast o now → span < 2 ^ 64
    → (span - age o now ≤ more) ↔ (¬ ((unended ≡ true) × IsWithin span o (now + more)))
over_when unended o now more span is past small = (
  λ late under. not_over o now more span past late under.1,
  λ never. elim (cases_lt more (span - age o now)) [ inl soon ↦ absurd (never (is, over o now more span past small soon)) | inr late ↦ late ],
)

pub usable_when : (o : Option ℕ) (now more span : ℕ) → IsPast o now → span < 2 ^ 64 → (more < span - age o now) ↔ IsWithin span o (now + more)
usable_when o now more span past small = (
  over o now more span past small,
  λ within. elim (cases_lt more (span - age o now)) [ inl soon ↦ soon | inr late ↦ absurd (not_over o now more span past late within) ],
)
