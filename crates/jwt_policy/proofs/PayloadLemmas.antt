-- The claims of a payload, by its object and the table of kinds.
use Rattle.std.proofs.Common.{◌≡◌, ℕ, List, Option, Some, None, Result, Ok, Err, refl, sym, ap, ◌∙◌, subst}
use Rattle.serde_json.specs.Data.{Members}
use Rattle.jwt_text.specs.declared.fault.TextFault.{TextFault}
use Rattle.jwt_text.specs.Answers.{or_fault, ◌>>=◌, unless}
use Rattle.jwt_text.specs.ObjectText.{object_of}
use Rattle.jwt_policy.specs.ClaimKinds.{kind_fault, claims_of}
use Rattle.jwt_policy.specs.declared.claim_fault.ClaimFault.{ClaimFault}
use Rattle.jwt_policy.specs.declared.claim_fault.ClaimFault.TheVariants.{ClaimsShape}

abbrev claims_in : Result Members TextFault → Result Members ClaimFault
claims_in r = or_fault ClaimsShape r >>= λ ms. unless (kind_fault ms) (Ok ms)

split : (r : Result Members TextFault) (ms : Members) → claims_in r ≡ Ok ms → (r ≡ Ok ms) × (kind_fault ms ≡ None)
split (Err e) ms h = absurd cc
split (Ok ns) ms h = by (kind_fault ns) refl h
  where
    wrapped : Members → Result Members TextFault
    wrapped m = Ok m

    by : (o : Option ClaimFault) → kind_fault ns ≡ o → unless o (Ok ns) ≡ Ok ms → (wrapped ns ≡ wrapped ms) × (kind_fault ms ≡ None)
    by None e is = let same : ns ≡ ms = cc in (ap wrapped same, subst (λ m. kind_fault m ≡ None) same e)
    by (Some f) e is = absurd cc

-- claims are those of an object whose kinds have no fault
pub read : (payload : List ℕ) (ms : Members) → claims_of payload ≡ Ok ms → (object_of payload ≡ Ok ms) × (kind_fault ms ≡ None)
unfolding claims_of
read payload ms h = split (object_of payload) ms h

pub is_read : (payload : List ℕ) (ms : Members) → object_of payload ≡ Ok ms → kind_fault ms ≡ None → claims_of payload ≡ Ok ms
unfolding claims_of
is_read payload ms is none = ap claims_in is ∙ ap (λ o. unless o (Ok ms)) none

unless_fault : (o : Option ClaimFault) (ms : Members) (fault : ClaimFault) → unless o (Ok ms) ≡ Err fault → o ≡ Some fault
unless_fault None ms fault e = absurd cc
unless_fault (Some f) ms fault e = let same : f ≡ fault = cc in ap Some same

-- of an object the fault is that of its kinds
pub refused : (payload : List ℕ) (ms : Members) (fault : ClaimFault) → object_of payload ≡ Ok ms → claims_of payload ≡ Err fault → kind_fault ms ≡ Some fault
unfolding claims_of
refused payload ms fault is e = unless_fault (kind_fault ms) ms fault (sym (ap claims_in is) ∙ e)

pub is_refused : (payload : List ℕ) (ms : Members) (fault : ClaimFault) → object_of payload ≡ Ok ms → kind_fault ms ≡ Some fault → claims_of payload ≡ Err fault
unfolding claims_of
is_refused payload ms fault is e = ap claims_in is ∙ ap (λ o. unless o (Ok ms)) e

-- what is no object has no claims
pub misshapen : (payload : List ℕ) → ((ms : Members) → object_of payload ≡ Ok ms → ⊥) → claims_of payload ≡ Err ClaimsShape
unfolding claims_of
misshapen payload none = by (object_of payload) refl
  where
    by : (r : Result Members TextFault) → object_of payload ≡ r → claims_in r ≡ Err ClaimsShape
    by (Ok ms) is = absurd (none ms is)
    by (Err e) is = refl
