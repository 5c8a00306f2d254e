-- Which signature decides what all of them come to.
use Rattle.std.proofs.Common.{◌≡◌, ℕ, zero, suc, ◌+◌, ◌<◌, true, false, Option, None, arith, refl, sym, ◌∙◌, ap, subst}
use Rattle.std.specs.Prelude.{not}
use Rattle.jwt_policy.specs.declared.mode.Mode.{Mode}
use Rattle.jwt_policy.specs.declared.mode.Mode.TheVariants.{Any, All}
use Rattle.jwt_policy.specs.declared.sig_fault.SigFault.{SigFault}
use Rattle.jwt_policy.specs.declared.sig_fault.SigFault.TheVariants as sig_fault
use Rattle.jwt_verify.specs.declared.signature_outcome.SignatureOutcome.{SignatureOutcome}
use Rattle.jwt_verify.specs.declared.signature_outcome.SignatureOutcome.TheVariants.{Verified, Barred, NoKey, BadSignature}
use Rattle.jwt_verify.specs.declared.signature_outcome.Signing.{Signing}
use Rattle.jwt_verify.specs.declared.signature_outcome.Signing.TheVariants.{Unverified}
use Rattle.jwt_verify.specs.Table.{Table, below}
use Rattle.jwt_verify.specs.Verdict.{first_in, fault_of, key_at, fault_at, signing_in, signing_of}
use Rattle.jwt_verify.specs.SignatureOutcome.{is_verified, outcome_key, outcome_state, outcome_signing, signing_view}
use Rattle.jwt_verify.specs.Walk.{goes_on, IsOutcome}
use Rattle.jwt_verify.proofs.First.{first_zero, first_more, first_here, first_none_at}

-- no signature before i ends the run
abbrev pub NoneDecides : Mode → Table → ℕ → Type 0
NoneDecides Any t i = first_in (key_at t) (below i) ≡ None
NoneDecides All t i = first_in (fault_at t) (below i) ≡ None

-- the signatures before i were gone through, and s is what the first of them, if any, comes to
pub record IsTracked (t : Table) (i : ℕ) (s : Signing) : Type 0 where
  pub none : i ≡ 0 → s ≡ Unverified 0 sig_fault.NoKey
  pub first : 0 < i → (a : SignatureOutcome) × IsOutcome t 0 a × (s ≡ outcome_signing 0 a)
  pub on : NoneDecides t.mode t i

pub tracked_start : (t : Table) → IsTracked t 0 (Unverified 0 sig_fault.NoKey)
tracked_start t = record {
  none = λ e. refl;
  first = λ l. absurd (omega (arith, l));
  on = elim t.mode as (λ m. NoneDecides m t 0) [ Any ↦ first_zero (key_at t) | All ↦ first_zero (fault_at t) ];
}

fault_is : (t : Table) (i : ℕ) (a : SignatureOutcome) → IsOutcome t i a → fault_at t i ≡ fault_of (outcome_state a)
fault_is t i a h = ap fault_of (sym h.state)

any_on : (t : Table) (i : ℕ) (a : SignatureOutcome) → key_at t i ≡ outcome_key a → first_in (key_at t) (below i) ≡ None → not (is_verified a) ≡ true → first_in (key_at t) (below (i + 1)) ≡ None
any_on t i (Verified j) k h n = cc
any_on t i (Barred f) k h n = first_more (key_at t) i k h
any_on t i NoKey k h n = first_more (key_at t) i k h
any_on t i BadSignature k h n = first_more (key_at t) i k h

all_on : (t : Table) (i : ℕ) (a : SignatureOutcome) → fault_at t i ≡ fault_of (outcome_state a) → first_in (fault_at t) (below i) ≡ None → is_verified a ≡ true → first_in (fault_at t) (below (i + 1)) ≡ None
all_on t i (Verified j) f h n = first_more (fault_at t) i f h
all_on t i (Barred g) f h n = cc
all_on t i NoKey f h n = cc
all_on t i BadSignature f h n = cc

on_more : (m : Mode) (t : Table) (i : ℕ) (a : SignatureOutcome) → IsOutcome t i a → NoneDecides m t i → goes_on m (is_verified a) ≡ true → NoneDecides m t (i + 1)
on_more Any t i a h on goes = any_on t i a h.key on goes
on_more All t i a h on goes = all_on t i a (fault_is t i a h) on goes

-- the first signature was gone through
pub tracked_first : (t : Table) (i : ℕ) (s : Signing) (a : SignatureOutcome) → i ≡ 0 → IsTracked t i s → IsOutcome t i a → goes_on t.mode (is_verified a) ≡ true → IsTracked t (i + 1) (outcome_signing 0 a)
tracked_first t i s a z h k goes = record {
  none = λ e. absurd (omega (arith, e));
  first = λ l. (a, subst (λ n. IsOutcome t n a) z k, refl);
  on = on_more t.mode t i a k h.on goes;
}

-- a later one was
pub tracked_more : (t : Table) (i : ℕ) (s : Signing) (a : SignatureOutcome) → 0 < i → IsTracked t i s → IsOutcome t i a → goes_on t.mode (is_verified a) ≡ true → IsTracked t (i + 1) s
tracked_more t i s a l h k goes = record {
  none = λ e. absurd (omega (arith, e));
  first = λ _. h.first l;
  on = on_more t.mode t i a k h.on goes;
}

any_last : (t : Table) (i n : ℕ) (a : SignatureOutcome) (f : Option (ℕ × SigFault)) → key_at t i ≡ outcome_key a → first_in (key_at t) (below i) ≡ None → i < n → not (is_verified a) ≡ false
    → signing_view (outcome_signing i a) ≡ signing_in Any (first_in (key_at t) (below n)) f
any_last t i n (Verified j) f k h l v = rw (first_here (key_at t) i n j k h l) refl
any_last t i n (Barred g) f k h l v = cc
any_last t i n NoKey f k h l v = cc
any_last t i n BadSignature f k h l v = cc

all_last : (t : Table) (i n : ℕ) (a : SignatureOutcome) (v : Option (ℕ × ℕ)) → fault_at t i ≡ fault_of (outcome_state a) → first_in (fault_at t) (below i) ≡ None → i < n → is_verified a ≡ false
    → signing_view (outcome_signing i a) ≡ signing_in All v (first_in (fault_at t) (below n))
all_last t i n (Verified j) v f h l u = cc
all_last t i n (Barred g) v f h l u = rw (first_here (fault_at t) i n g f h l) refl
all_last t i n NoKey v f h l u = rw (first_here (fault_at t) i n sig_fault.NoKey f h l) refl
all_last t i n BadSignature v f h l u = rw (first_here (fault_at t) i n sig_fault.BadSignature f h l) refl

-- the signature that ends the run decides
pub tracked_last : (t : Table) (i : ℕ) (s : Signing) (a : SignatureOutcome) → IsTracked t i s → IsOutcome t i a → goes_on t.mode (is_verified a) ≡ false → i < t.signatures → signing_view (outcome_signing i a) ≡ signing_of t
unfolding signing_of
tracked_last t i s a h k stops l = go t.mode h.on stops
  where
    go : (m : Mode) → NoneDecides m t i → goes_on m (is_verified a) ≡ false → signing_view (outcome_signing i a) ≡ signing_in m (first_in (key_at t) (below t.signatures)) (first_in (fault_at t) (below t.signatures))
    go Any on v = any_last t i t.signatures a _ k.key on l v
    go All on v = all_last t i t.signatures a _ (fault_is t i a k) on l v

any_end : (t : Table) (n : ℕ) (a : SignatureOutcome) → IsOutcome t 0 a → 0 < n → first_in (key_at t) (below n) ≡ None → signing_view (outcome_signing 0 a) ≡ signing_in Any (first_in (key_at t) (below n)) (first_in (fault_at t) (below n))
any_end t n (Verified j) h l on = let e = sym h.key ∙ first_none_at (key_at t) n 0 l on in cc
any_end t n (Barred f) h l on = rw (on, first_here (fault_at t) 0 n f (fault_is t 0 (Barred f) h) (first_zero (fault_at t)) l) refl
any_end t n NoKey h l on = rw (on, first_here (fault_at t) 0 n sig_fault.NoKey (fault_is t 0 NoKey h) (first_zero (fault_at t)) l) refl
any_end t n BadSignature h l on = rw (on, first_here (fault_at t) 0 n sig_fault.BadSignature (fault_is t 0 BadSignature h) (first_zero (fault_at t)) l) refl

all_end : (t : Table) (n : ℕ) (a : SignatureOutcome) → IsOutcome t 0 a → 0 < n → first_in (fault_at t) (below n) ≡ None → signing_view (outcome_signing 0 a) ≡ signing_in All (first_in (key_at t) (below n)) (first_in (fault_at t) (below n))
all_end t n (Verified j) h l on = rw (on, first_here (key_at t) 0 n j h.key (first_zero (key_at t)) l) refl
all_end t n (Barred f) h l on = let e = sym (fault_is t 0 (Barred f) h) ∙ first_none_at (fault_at t) n 0 l on in cc
all_end t n NoKey h l on = let e = sym (fault_is t 0 NoKey h) ∙ first_none_at (fault_at t) n 0 l on in cc
all_end t n BadSignature h l on = let e = sym (fault_is t 0 BadSignature h) ∙ first_none_at (fault_at t) n 0 l on in cc

up_to : (t : Table) (n : ℕ) (s : Signing) → IsTracked t n s → signing_view s ≡ signing_in t.mode (first_in (key_at t) (below n)) (first_in (fault_at t) (below n))
up_to t zero s h = rw (h.none refl) (go t.mode)
  where
    go : (m : Mode) → signing_view (Unverified 0 sig_fault.NoKey) ≡ signing_in m (first_in (key_at t) (below 0)) (first_in (fault_at t) (below 0))
    go Any = rw (first_zero (key_at t), first_zero (fault_at t)) refl
    go All = rw (first_zero (key_at t), first_zero (fault_at t)) refl
up_to t (suc n) s h =
    let l : 0 < suc n = omega arith in
    let f = h.first l in
    ap signing_view f.2 ∙ go t.mode h.on l f.0 f.1
  where
    go : (m : Mode) → NoneDecides m t (suc n) → 0 < suc n → (a : SignatureOutcome) → IsOutcome t 0 a → signing_view (outcome_signing 0 a) ≡ signing_in m (first_in (key_at t) (below (suc n))) (first_in (fault_at t) (below (suc n)))
    go Any on l a k = any_end t (suc n) a k l on
    go All on l a k = all_end t (suc n) a k l on

-- after the last signature the first one decides
pub tracked_all : (t : Table) (i : ℕ) (s : Signing) → IsTracked t i s → i ≡ t.signatures → signing_view s ≡ signing_of t
unfolding signing_of
tracked_all t i s h e = subst (λ n. signing_view s ≡ signing_in t.mode (first_in (key_at t) (below n)) (first_in (fault_at t) (below n))) e (up_to t i s h)
