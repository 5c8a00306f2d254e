use Rattle.std.proofs.Common.{◌∙◌, refl, arith}
use Rattle.std.proofs.lemmas.Result.{err_from_is_err_and}
use Rattle.jwt_verify.specs.Walk.{HasComeTo, IsRowEnd}
use Rattle.jwt_verify.specs.Paying.{IsFront}
use Rattle.jwt_verify.specs.declared.tries.RowEnd.TheVariants.{Through, Stop}
use Rattle.jwt_verify.specs.declared.signature_outcome.SignatureOutcome.TheVariants.{Verified}
use Rattle.jwt_verify.proofs.Below.{below-zero}
use Rattle.jwt_verify.proofs.Pairs.{open_bar, open_within, terms_small, next_few, barred_none, of_numbered, to_numbered}
use Rattle.jwt_verify.proofs.Walking.{at_front}
use Rattle.jwt_verify.proofs.Ending.{pending_next, pending_room, tried_verified, tried_failed, tried_stopped, row_end, row_barred, seen_more}
use Rattle.jwt_verify.proofs.tries.try_signature.Goals as goal

pub returns-in-Err-clause-end : goal.returns-in-Err-clause-end
returns-in-Err-clause-end g c =
    row_barred (g.B.Budget.ceiling c.args.budget.now) c.args.terms.now.policy.now.max_calls c.requires.at c.in-Err.ensures
    (barred_none _ c.args.terms.now c.args.numbered.now.signed.now c.args.numbered.now.number c.in-Err.fault c.in-Err.ensures)

pub keys-init : goal.keys-init
keys-init g c = record {
  at = of_numbered (λ t i. HasComeTo t i 0 c.args.tries.now.items) c.in-Ok.ensures c.requires.at;
  within = omega arith;
  outcome = rw below-zero refl;
  counted = c.requires.counted;
  ceiling = refl;
}

pub pay-requires-clause-room : goal.pay-requires-clause-room
pay-requires-clause-room g c =
    let u = c.in-Ok.live in
    pending_room (pending_next c.keys.invariant.at c.in-Some.ensures.next) (open_within _ c.args.terms.now u c.in-Ok.ensures.is_live) (terms_small _ c.args.terms.now u.signed.now)

pub returns-in_err-pay-clause-end : goal.returns-in_err-pay-clause-end
returns-in_err-pay-clause-end g c =
    let p = err_from_is_err_and c.from_residual.result c.from_residual.ensures.1 in
    let front = at_front c.keys.invariant.at (open_within _ c.args.terms.now c.in-Ok.live c.in-Ok.ensures.is_live) c.keys.invariant.within in
    rw (p.1, c.in_err-pay.ensures.err) (to_numbered (λ t i. IsFront t c.keys.tries.items) c.in-Ok.ensures front)

pub returns-in-Verified-clause-end : goal.returns-in-Verified-clause-end
returns-in-Verified-clause-end g c =
    let tried = rw c.in-Verified.is at c.in_ok-pay.ensures.tried in
    let row = tried_verified (g.B.Budget.ceiling c.keys.budget) c.max_calls.result (pending_next c.keys.invariant.at c.in-Some.ensures.next)
    (open_bar _ c.args.terms.now c.in-Ok.live c.in-Ok.ensures.is_live) c.in-Some.ensures tried in
    to_numbered (λ t i. IsRowEnd t i (g.B.Budget.ceiling c.keys.budget) c.max_calls.result c.pay.new.tries.items (Through (Verified c.in-Some.pair.key))) c.in-Ok.ensures row

pub returns-in-Stop-clause-end : goal.returns-in-Stop-clause-end
returns-in-Stop-clause-end g c =
    let tried = rw c.in-Stop.is at c.in_ok-pay.ensures.tried in
    let w = g.B.Budget.ceiling c.args.budget.now in
    let calls = c.args.terms.now.policy.now.max_calls in
    let row = tried_stopped w calls c.pay.new.tries.items c.in-Stop.end c.keys.invariant.ceiling c.max_calls.ensures.value (pending_next c.keys.invariant.at c.in-Some.ensures.next)
    (open_within _ c.args.terms.now c.in-Ok.live c.in-Ok.ensures.is_live) c.in-Some.ensures tried in
    to_numbered (λ t i. IsRowEnd t i w calls c.pay.new.tries.items (Stop c.in-Stop.end)) c.in-Ok.ensures row

pub overflow_add-from : goal.overflow_add-from
overflow_add-from g c = omega (arith, next_few _ c.args.terms.now c.in-Ok.live.signed.now c.in-Some.ensures.next)

pub keys-preserved : goal.keys-preserved
keys-preserved g c =
    let n = c.in-Some.ensures in
    let tried = rw c.in-Failed.is at c.in_ok-pay.ensures.tried in
    record {
      at = tried_failed (g.B.Budget.ceiling c.keys.budget) c.max_calls.result (pending_next c.keys.invariant.at n.next) n tried;
      within = omega (arith, n.next.within);
      outcome = seen_more n.next;
      counted = rw c.pay.ensures.ceiling (rw c.max_calls.ensures.value at c.pay.ensures.counted);
      ceiling = c.pay.ensures.ceiling ∙ c.keys.invariant.ceiling;
    }

pub returns-clause-end : goal.returns-clause-end
returns-clause-end g c =
    let w = g.B.Budget.ceiling c.args.budget.now in
    let calls = c.args.terms.now.policy.now.max_calls in
    let row = row_end w calls c.keys.invariant.at c.keys.invariant.within (open_bar _ c.args.terms.now c.in-Ok.live c.in-Ok.ensures.is_live) c.keys.invariant.outcome c.in_default.ensures in
    to_numbered (λ t i. IsRowEnd t i w calls c.keys.tries.items (Through c.keys.outcome)) c.in-Ok.ensures row
