use Rattle.std.proofs.Common.{◌≡◌, sym, ◌∙◌, refl, arith, ◌<◌, ◌++◌, ◌∷◌, [], map, ap, subst, true, false}
use Rattle.std.proofs.lemmas.Option.{slice_get_within}
use Rattle.std.proofs.lemmas.Result.{err_from_is_err_and}
use Rattle.jwt_jws.specs.Views.{token, parts}
use Rattle.jwt_verify.specs.TermsTable.{terms_table}
use Rattle.jwt_verify.specs.Table.{below, outcome}
use Rattle.jwt_verify.specs.SignatureOutcome.{is_verified}
use Rattle.jwt_verify.specs.Walk.{HasComeTo, stopped_at}
use Rattle.jwt_verify.proofs.Below.{below-zero, map-below}
use Rattle.jwt_verify.proofs.Walking.{at_start, through_front, through_next, through_last, at_last}
use Rattle.jwt_verify.proofs.Paying.{counted_none}
use Rattle.jwt_verify.proofs.Pairs.{terms_signatures, terms_mode, none_past}
use Rattle.jwt_verify.proofs.Deciding.{tracked_start, tracked_first, tracked_more, tracked_last, tracked_all}
use Rattle.jwt_verify.proofs.Ending.{recorded_stop, recorded_done, recorded_all}
use Rattle.jwt_verify.proofs.tries.walk.Goals.{then-number-eq0, else-number-eq0}
use Rattle.jwt_verify.proofs.tries.walk.Goals as goal

pub signatures-init : goal.signatures-init
signatures-init g c =
    let t = terms_table (λ b. (goal.Verifier-dyn g (b.vtable, b.value)).meaning b.value) c.args.terms.now c.args.signed.now in
    record {
      at = rw c.requires.no_tries (at_start t);
      within = omega arith;
      counted = rw c.requires.no_tries (counted_none (g.B.Budget.ceiling c.args.budget.now) c.args.terms.now.policy.now.max_calls c.requires.no_octets c.requires.no_calls);
      ceiling = refl;
      states = c.requires.no_states ∙ sym (ap (map (outcome t)) below-zero);
      signing = tracked_start t;
    }

pub returns-in-Stop-clause-states : goal.returns-in-Stop-clause-states
returns-in-Stop-clause-states g c =
    let t = terms_table (λ b. (goal.Verifier-dyn g (b.vtable, b.value)).meaning b.value) c.args.terms.now c.args.signed.now in
    let e = rw c.in-Some.is at c.signature.ensures in
    let l : c.signatures.number < t.signatures = rw (terms_signatures (λ b. (goal.Verifier-dyn g (b.vtable, b.value)).meaning b.value) c.args.terms.now c.args.signed.now) (slice_get_within (token c.args.signed.now).signatures c.signatures.number (parts c.in-Some.signature.now) (sym e)) in
    let row = rw c.in-Stop.is at c.in_ok-outcome.ensures.end in
    rw c.in_ok-push-in-Stop.ensures.items (recorded_stop t c.signatures.number row.2.0 (stopped_at t c.in-Stop.end) c.signatures.states.items row.2.1 row.1 l c.signatures.invariant.states)

pub returns-in_err-push-clause-end : goal.returns-in_err-push-clause-end
returns-in_err-push-clause-end g c =
    let t = terms_table (λ b. (goal.Verifier-dyn g (b.vtable, b.value)).meaning b.value) c.args.terms.now c.args.signed.now in
    let e = rw c.in-Some.is at c.signature.ensures in
    let l : c.signatures.number < t.signatures = rw (terms_signatures (λ b. (goal.Verifier-dyn g (b.vtable, b.value)).meaning b.value) c.args.terms.now c.args.signed.now) (slice_get_within (token c.args.signed.now).signatures c.signatures.number (parts c.in-Some.signature.now) (sym e)) in
    let p = err_from_is_err_and c.from_residual-in_err-push.result c.from_residual-in_err-push.ensures.1 in
    let row = rw c.in-Through.is at c.in_ok-outcome.ensures.end in
    rw p.1 (through_front row.0 l)

pub returns-then-not-runs_on-clause-end : goal.returns-then-not-runs_on-clause-end
returns-then-not-runs_on-clause-end g c =
    let t = terms_table (λ b. (goal.Verifier-dyn g (b.vtable, b.value)).meaning b.value) c.args.terms.now c.args.signed.now in
    let e = rw c.in-Some.is at c.signature.ensures in
    let l : c.signatures.number < t.signatures = rw (terms_signatures (λ b. (goal.Verifier-dyn g (b.vtable, b.value)).meaning b.value) c.args.terms.now c.args.signed.now) (slice_get_within (token c.args.signed.now).signatures c.signatures.number (parts c.in-Some.signature.now) (sym e)) in
    let row = rw c.in-Through.is at c.in_ok-outcome.ensures.end in
    let stops = rw (c.mode.ensures, c.is_verified.ensures) at (sym c.runs_on.ensures ∙ c.if-not-runs_on.true) in
    through_last t c.signatures.number (is_verified c.in-Through.outcome) c.try_signature.new.tries.items row.0 l (terms_mode (λ b. (goal.Verifier-dyn g (b.vtable, b.value)).meaning b.value) c.args.terms.now c.args.signed.now (is_verified c.in-Through.outcome) false stops)

pub returns-then-not-runs_on-clause-states : goal.returns-then-not-runs_on-clause-states
returns-then-not-runs_on-clause-states g c =
    let t = terms_table (λ b. (goal.Verifier-dyn g (b.vtable, b.value)).meaning b.value) c.args.terms.now c.args.signed.now in
    let e = rw c.in-Some.is at c.signature.ensures in
    let l : c.signatures.number < t.signatures = rw (terms_signatures (λ b. (goal.Verifier-dyn g (b.vtable, b.value)).meaning b.value) c.args.terms.now c.args.signed.now) (slice_get_within (token c.args.signed.now).signatures c.signatures.number (parts c.in-Some.signature.now) (sym e)) in
    let row = rw c.in-Through.is at c.in_ok-outcome.ensures.end in
    let stops = rw (c.mode.ensures, c.is_verified.ensures) at (sym c.runs_on.ensures ∙ c.if-not-runs_on.true) in
    rw (c.in_ok-push.ensures.items, c.state.ensures ∙ row.1.state)
    (recorded_done t c.signatures.number (is_verified c.in-Through.outcome) c.try_signature.new.tries.items c.signatures.states.items row.0
    (terms_mode (λ b. (goal.Verifier-dyn g (b.vtable, b.value)).meaning b.value) c.args.terms.now c.args.signed.now (is_verified c.in-Through.outcome) false stops) l c.signatures.invariant.states)

pub returns-then-not-runs_on-clause-signing : goal.returns-then-not-runs_on-clause-signing
returns-then-not-runs_on-clause-signing g c =
    let t = terms_table (λ b. (goal.Verifier-dyn g (b.vtable, b.value)).meaning b.value) c.args.terms.now c.args.signed.now in
    let e = rw c.in-Some.is at c.signature.ensures in
    let l : c.signatures.number < t.signatures = rw (terms_signatures (λ b. (goal.Verifier-dyn g (b.vtable, b.value)).meaning b.value) c.args.terms.now c.args.signed.now) (slice_get_within (token c.args.signed.now).signatures c.signatures.number (parts c.in-Some.signature.now) (sym e)) in
    let row = rw c.in-Through.is at c.in_ok-outcome.ensures.end in
    let stops = rw (c.mode.ensures, c.is_verified.ensures) at (sym c.runs_on.ensures ∙ c.if-not-runs_on.true) in
    rw c.decides.ensures (tracked_last t c.signatures.number c.signatures.signing c.in-Through.outcome c.signatures.invariant.signing row.1
    (terms_mode (λ b. (goal.Verifier-dyn g (b.vtable, b.value)).meaning b.value) c.args.terms.now c.args.signed.now (is_verified c.in-Through.outcome) false stops) l)

pub signatures-smaller : goal.signatures-smaller
signatures-smaller g c =
    let t = terms_table (λ b. (goal.Verifier-dyn g (b.vtable, b.value)).meaning b.value) c.args.terms.now c.args.signed.now in
    let e = rw c.in-Some.is at c.signature.ensures in
    let l : c.signatures.number < t.signatures = rw (terms_signatures (λ b. (goal.Verifier-dyn g (b.vtable, b.value)).meaning b.value) c.args.terms.now c.args.signed.now) (slice_get_within (token c.args.signed.now).signatures c.signatures.number (parts c.in-Some.signature.now) (sym e)) in
    omega (arith, l, terms_signatures (λ b. (goal.Verifier-dyn g (b.vtable, b.value)).meaning b.value) c.args.terms.now c.args.signed.now)

pub signatures-preserved : goal.signatures-preserved
signatures-preserved g c =
    let t = terms_table (λ b. (goal.Verifier-dyn g (b.vtable, b.value)).meaning b.value) c.args.terms.now c.args.signed.now in
    let e = rw c.in-Some.is at c.signature.ensures in
    let l : c.signatures.number < t.signatures = rw (terms_signatures (λ b. (goal.Verifier-dyn g (b.vtable, b.value)).meaning b.value) c.args.terms.now c.args.signed.now) (slice_get_within (token c.args.signed.now).signatures c.signatures.number (parts c.in-Some.signature.now) (sym e)) in
    let row = rw c.in-Through.is at c.in_ok-outcome.ensures.end in
    let goes = terms_mode (λ b. (goal.Verifier-dyn g (b.vtable, b.value)).meaning b.value) c.args.terms.now c.args.signed.now (is_verified c.in-Through.outcome) true (rw (c.mode.ensures, c.is_verified.ensures) at (sym c.runs_on.ensures ∙ c.if-not-runs_on.false)) in
    record {
      at = through_next t c.signatures.number (is_verified c.in-Through.outcome) c.try_signature.new.tries.items row.0 goes;
      within = omega (arith, slice_get_within (token c.args.signed.now).signatures c.signatures.number (parts c.in-Some.signature.now) (sym e));
      counted = rw c.try_signature.ensures.ceiling c.try_signature.ensures.counted;
      ceiling = c.try_signature.ensures.ceiling ∙ c.signatures.invariant.ceiling;
      states = rw (c.in_ok-push.ensures.items, c.state.ensures ∙ row.1.state) (ap (λ ys. ys ++ outcome t c.signatures.number ∷ []) c.signatures.invariant.states ∙ sym (map-below (outcome t) c.signatures.number));
      signing = elim c.if-number-eq0.branch [
        | then-number-eq0 w ↦ rw (w.signing-is, w.decides-signing.ensures) (tracked_first t c.signatures.number c.signatures.signing c.in-Through.outcome w.if-number-eq0.true c.signatures.invariant.signing row.1 goes)
        | else-number-eq0 w ↦ rw w.signing-is (tracked_more t c.signatures.number c.signatures.signing c.in-Through.outcome (omega (arith, w.if-number-eq0.false)) c.signatures.invariant.signing row.1 goes)
      ];
    }

pub returns-clause-end : goal.returns-clause-end
returns-clause-end g c =
    let t = terms_table (λ b. (goal.Verifier-dyn g (b.vtable, b.value)).meaning b.value) c.args.terms.now c.args.signed.now in
    let e : c.signatures.number ≡ t.signatures = none_past (token c.args.signed.now).signatures c.signatures.number c.signatures.invariant.within (sym (rw c.in_default.is at c.signature.ensures)) ∙ sym (terms_signatures (λ b. (goal.Verifier-dyn g (b.vtable, b.value)).meaning b.value) c.args.terms.now c.args.signed.now) in
    at_last t c.signatures.tries.items (subst (λ k. HasComeTo t k 0 c.signatures.tries.items) e c.signatures.invariant.at)

pub returns-clause-states : goal.returns-clause-states
returns-clause-states g c =
    let t = terms_table (λ b. (goal.Verifier-dyn g (b.vtable, b.value)).meaning b.value) c.args.terms.now c.args.signed.now in
    let e : c.signatures.number ≡ t.signatures = none_past (token c.args.signed.now).signatures c.signatures.number c.signatures.invariant.within (sym (rw c.in_default.is at c.signature.ensures)) ∙ sym (terms_signatures (λ b. (goal.Verifier-dyn g (b.vtable, b.value)).meaning b.value) c.args.terms.now c.args.signed.now) in
    recorded_all t c.signatures.tries.items c.signatures.states.items (subst (λ k. HasComeTo t k 0 c.signatures.tries.items) e c.signatures.invariant.at)
    (c.signatures.invariant.states ∙ ap (λ k. map (outcome t) (below k)) e)

pub returns-clause-signing : goal.returns-clause-signing
returns-clause-signing g c =
    let t = terms_table (λ b. (goal.Verifier-dyn g (b.vtable, b.value)).meaning b.value) c.args.terms.now c.args.signed.now in
    let e : c.signatures.number ≡ t.signatures = none_past (token c.args.signed.now).signatures c.signatures.number c.signatures.invariant.within (sym (rw c.in_default.is at c.signature.ensures)) ∙ sym (terms_signatures (λ b. (goal.Verifier-dyn g (b.vtable, b.value)).meaning b.value) c.args.terms.now c.args.signed.now) in
    tracked_all t c.signatures.number c.signatures.signing c.signatures.invariant.signing e
