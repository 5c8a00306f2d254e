use Rattle.std.proofs.Common.{◌≡◌, ℕ, ◌+◌, ◌-◌, ◌*◌, List, [], ◌∷◌, Result, Vec, sym, ap, subst, ◌∙◌, arith}
use Rattle.std.specs.Global.{Global}
use Rattle.std.proofs.lemmas.Result.{err_from_is_err_and}
use Rattle.jwt_jws.specs.SignedToken.{IsSignedToken}
use Rattle.jwt_text.specs.Base64url.{AreOctets, spelling}
use Rattle.jwt_issue.specs.Issued.{unfit, token_within, pair_signing_cost, signer_of, signing_cost}
use Rattle.jwt_issue.specs.Paying.{Pays, due}
use Rattle.jwt_issue.specs.Single.{single_of, single_token, single_signed}
use Rattle.jwt_issue.specs.Views.{pair_of, optional_text, signer_parts}
use Rattle.jwt_issue.specs.declared.fault.IssueFault.{IssueFault}
use Rattle.jwt_issue.proofs.Fit.{same_cost, same_answer, signer_unspent, none_paid, answered}
use Rattle.jwt_issue.proofs.single.issue_single.Goals as goal

pub returns-in_err-signer-clause-paid : goal.returns-in_err-signer-clause-paid
returns-in_err-signer-clause-paid g c =
    let p = err_from_is_err_and c.from_residual.result c.from_residual.ensures.1 in
    let typ = optional_text c.args.options.typ in
    let pair = pair_of c.args.options.alg c.args.options.key.now in
    let left = g.B.Budget.ceiling c.args.budget.now - g.B.Budget.octets c.args.budget.now in
    let unspent = λ (j : ℕ). signer_unspent pair (signer_of typ pair) c.in_err-signer.field-0.0 j c.in_err-signer.ensures.answer in
    let Paid : ℕ → Type 0 = λ n. (g.B.Budget.octets c.args.budget.now ≡ g.B.Budget.octets c.args.budget.now + n * pair_signing_cost typ c.args.claims.now pair) × (g.B.Budget.calls c.args.budget.now ≡ g.B.Budget.calls c.args.budget.now + n) in
    rw (p.1, p.2) (none_paid (Vec ℕ Global) c.in_err-signer.field-0.0 (due 1 (single_of c.args.options.form left typ c.args.claims.now pair)) Paid unspent (omega arith, omega arith))

pub returns-clause-paid : goal.returns-clause-paid
unfolding single_of
returns-clause-paid g c =
    let payload : spelling c.args.claims.now ≡ c.deref.result.now = ap spelling (sym c.octets.ensures) ∙ sym c.in_ok-payload.ensures.ok ∙ sym c.deref.ensures.value in
    let text = c.deref.result.now in
    let typ = optional_text c.args.options.typ in
    let pair = pair_of c.args.options.alg c.args.options.key.now in
    let s = signer_parts c.in_ok-signer.signer in
    let left = g.B.Budget.ceiling c.args.budget.now - g.B.Budget.octets c.args.budget.now in
    let price = same_cost typ c.args.claims.now pair text s c.in_ok-signer.ensures.answer payload in
    let answer = same_answer (single_token c.args.options.form) left typ c.args.claims.now pair text s c.in_ok-signer.ensures.answer payload in
    let Paid : ℕ → ℕ → Type 0 = λ price n. (g.B.Budget.octets c.signed_token.new.budget ≡ g.B.Budget.octets c.args.budget.now + n * price) × (g.B.Budget.calls c.signed_token.new.budget ≡ g.B.Budget.calls c.args.budget.now + n) in
    subst (λ (most : ℕ). Pays c.signed_token.result most (Paid (pair_signing_cost typ c.args.claims.now pair))) (ap (λ (r : Result (List ℕ) IssueFault). due 1 r) answer)
    (subst (λ (price : ℕ). Pays c.signed_token.result (due 1 (token_within left (signing_cost text s ∷ []) (single_token c.args.options.form text s))) (Paid price)) price c.signed_token.ensures.paid)

pub returns-clause-signed : goal.returns-clause-signed
returns-clause-signed g c =
    let payload : spelling c.args.claims.now ≡ c.deref.result.now = ap spelling (sym c.octets.ensures) ∙ sym c.in_ok-payload.ensures.ok ∙ sym c.deref.ensures.value in
    let text = c.deref.result.now in
    let typ = optional_text c.args.options.typ in
    let pair = pair_of c.args.options.alg c.args.options.key.now in
    let s = signer_parts c.in_ok-signer.signer in
    let left = g.B.Budget.ceiling c.args.budget.now - g.B.Budget.octets c.args.budget.now in
    let answer = same_answer (single_token c.args.options.form) left typ c.args.claims.now pair text s c.in_ok-signer.ensures.answer payload in
    let claims : AreOctets c.args.claims.now = subst AreOctets c.octets.ensures c.in_ok-payload.ensures.octets in
    answered (λ (t : List ℕ). (most : ℕ) → IsSignedToken most t (single_signed c.args.options.form typ c.args.claims.now pair)) c.signed_token.result (unfit 0 pair) left (pair_signing_cost typ c.args.claims.now pair ∷ []) (single_token c.args.options.form (spelling c.args.claims.now) (signer_of typ pair))
    (rw answer at c.signed_token.ensures.answer)
    (λ most. c.tokens_are_signed.ensures c.args.options.form most typ c.args.claims.now pair c.in_ok-signer.ensures.utf8 claims)

pub returns-clause-answer : goal.returns-clause-answer
unfolding single_of
returns-clause-answer g c =
    let payload : spelling c.args.claims.now ≡ c.deref.result.now = ap spelling (sym c.octets.ensures) ∙ sym c.in_ok-payload.ensures.ok ∙ sym c.deref.ensures.value in
    let same = same_answer (single_token c.args.options.form) (g.B.Budget.ceiling c.args.budget.now - g.B.Budget.octets c.args.budget.now) (optional_text c.args.options.typ) c.args.claims.now (pair_of c.args.options.alg c.args.options.key.now) c.deref.result.now (signer_parts c.in_ok-signer.signer) c.in_ok-signer.ensures.answer payload in
    rw (← same) c.signed_token.ensures.answer
