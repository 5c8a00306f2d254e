use Rattle.std.proofs.Common.{◌≡◌, ℕ, ◌<◌, ◌≤◌, ◌+◌, ◌-◌, List, length, map, take, Result, Vec, sym, ap, ap₂, subst, ◌∙◌, arith}
use Rattle.std.specs.Global.{Global}
use Rattle.std.specs.List.{sum}
use Rattle.std.proofs.lemmas.Bool.Decides.{nat_tests}
use Rattle.std.proofs.lemmas.Grind.{common_steps}
use Rattle.std.proofs.lemmas.List.{length-map}
use Rattle.std.proofs.lemmas.Result.{err_from_is_err_and}
use Rattle.jwt_jws.specs.SignedToken.{IsSignedToken}
use Rattle.jwt_text.specs.Answers.{Answers}
use Rattle.jwt_text.specs.Base64url.{AreOctets, spelling}
use Rattle.jwt_issue.specs.Issued.{PairParts, SignerParts, first_unfit, general_of, general_token, token_within, signing_cost, signer_of, pair_costs}
use Rattle.jwt_issue.specs.declared.fault.IssueFault.{IssueFault}
use Rattle.jwt_issue.specs.declared.fault.IssueFault.TheVariants.{OutOfMemory}
use Rattle.jwt_issue.specs.declared.signer.Signer.{Signer}
use Rattle.jwt_issue.specs.Paying.{Pays, due}
use Rattle.jwt_issue.specs.Signed.{general_signed}
use Rattle.jwt_issue.specs.Views.{pair_parts, optional_text, signer_parts}
use Rattle.jwt_issue.proofs.Fit.{fit_answer, signers_costs, signers_answer, signers_unspent, none_paid, some_pairs, answered}
use Rattle.jwt_issue.proofs.general.issue_json.Goals as goal

pub returns-in_err-signers-clause-paid : goal.returns-in_err-signers-clause-paid
returns-in_err-signers-clause-paid g c =
    let p = err_from_is_err_and c.from_residual.result c.from_residual.ensures.1 in
    let pairs = map pair_parts c.args.pairs.now in
    let unspent = λ (j : ℕ). signers_unspent (optional_text c.args.typ) pairs (map (signer_of (optional_text c.args.typ)) pairs) c.in_err-signers.field-0.0 j c.in_err-signers.ensures.answer in
    rw (p.1, p.2) (none_paid (Vec ℕ Global) c.in_err-signers.field-0.0 _ _ unspent (omega arith, omega arith))

pub returns-clause-answer : goal.returns-clause-answer
unfolding general_of
returns-clause-answer g c =
    let pairs = map pair_parts c.args.pairs.now in
    let made : PairParts → SignerParts = signer_of (optional_text c.args.typ) in
    let ss = map signer_parts c.deref.result.now in
    let fit = fit_answer (first_unfit 0 pairs) (map made pairs) (map signer_parts c.in_ok-signers.signers.items) c.in_ok-signers.ensures.answer in
    let signers : map made pairs ≡ ss = fit.1 ∙ ap (λ (xs : List Signer). map signer_parts xs) (sym c.deref.ensures.value) in
    let payload : spelling c.args.claims.now ≡ c.deref-2.result.now = ap spelling (sym c.octets.ensures) ∙ sym c.in_ok-payload.ensures.ok ∙ sym c.deref-2.ensures.value in
    let left = g.B.Budget.ceiling c.args.budget.now - g.B.Budget.octets c.args.budget.now in
    let same = signers_answer general_token left (optional_text c.args.typ) c.args.claims.now pairs c.deref-2.result.now ss fit.0 signers payload in
    let size = length-map c.args.pairs.now pair_parts in
    let some : 0 < length c.args.pairs.now = grind (arith, nat_tests, common_steps) in
    subst (λ (answer : Result (List ℕ) IssueFault). Answers {X = Vec ℕ Global} OutOfMemory (λ (v : Vec ℕ Global). v.items) c.general_token.result answer)
    (same ∙ some_pairs pairs _ (omega (arith, some)) (omega arith))
    c.general_token.ensures.answer

pub returns-clause-paid : goal.returns-clause-paid
unfolding general_of
returns-clause-paid g c =
    let pairs = map pair_parts c.args.pairs.now in
    let made : PairParts → SignerParts = signer_of (optional_text c.args.typ) in
    let ss = map signer_parts c.deref.result.now in
    let fit = fit_answer (first_unfit 0 pairs) (map made pairs) (map signer_parts c.in_ok-signers.signers.items) c.in_ok-signers.ensures.answer in
    let signers : map made pairs ≡ ss = fit.1 ∙ ap (λ (xs : List Signer). map signer_parts xs) (sym c.deref.ensures.value) in
    let payload : spelling c.args.claims.now ≡ c.deref-2.result.now = ap spelling (sym c.octets.ensures) ∙ sym c.in_ok-payload.ensures.ok ∙ sym c.deref-2.ensures.value in
    let costs = signers_costs (optional_text c.args.typ) c.args.claims.now pairs c.deref-2.result.now ss signers payload in
    let left = g.B.Budget.ceiling c.args.budget.now - g.B.Budget.octets c.args.budget.now in
    let same = signers_answer general_token left (optional_text c.args.typ) c.args.claims.now pairs c.deref-2.result.now ss fit.0 signers payload in
    let count = length-map c.args.pairs.now pair_parts in
    let some : 0 < length c.args.pairs.now = grind (arith, nat_tests, common_steps) in
    let answer = same ∙ some_pairs pairs _ (omega (arith, some)) (omega arith) in
    let size : length c.deref.result.now ≡ length c.args.pairs.now =
    sym (length-map c.deref.result.now signer_parts) ∙ sym (ap (λ (xs : List SignerParts). length xs) signers) ∙ length-map pairs made ∙ length-map c.args.pairs.now pair_parts in
    let Paid : List ℕ → ℕ → Type 0 = λ prices n. (g.B.Budget.octets c.general_token.new.budget ≡ g.B.Budget.octets c.args.budget.now + sum (take n prices)) × (g.B.Budget.calls c.general_token.new.budget ≡ g.B.Budget.calls c.args.budget.now + n) in
    subst (λ (most : ℕ). Pays c.general_token.result most (Paid (pair_costs (optional_text c.args.typ) c.args.claims.now pairs))) (ap₂ (λ (all : ℕ) (r : Result (List ℕ) IssueFault). due all r) size answer)
    (subst (λ (prices : List ℕ). Pays c.general_token.result (due (length c.deref.result.now) (token_within left (map (signing_cost c.deref-2.result.now) ss) (general_token c.deref-2.result.now ss))) (Paid prices)) costs c.general_token.ensures.paid)

pub returns-clause-signed : goal.returns-clause-signed
returns-clause-signed g c =
    let typ = optional_text c.args.typ in
    let pairs = map pair_parts c.args.pairs.now in
    let made : PairParts → SignerParts = signer_of typ in
    let ss = map signer_parts c.deref.result.now in
    let fit = fit_answer (first_unfit 0 pairs) (map made pairs) (map signer_parts c.in_ok-signers.signers.items) c.in_ok-signers.ensures.answer in
    let signers : map made pairs ≡ ss = fit.1 ∙ ap (λ (xs : List Signer). map signer_parts xs) (sym c.deref.ensures.value) in
    let payload : spelling c.args.claims.now ≡ c.deref-2.result.now = ap spelling (sym c.octets.ensures) ∙ sym c.in_ok-payload.ensures.ok ∙ sym c.deref-2.ensures.value in
    let left = g.B.Budget.ceiling c.args.budget.now - g.B.Budget.octets c.args.budget.now in
    let same = signers_answer general_token left typ c.args.claims.now pairs c.deref-2.result.now ss fit.0 signers payload in
    let count = length-map c.args.pairs.now pair_parts in
    let some : 0 < length c.args.pairs.now = grind (arith, nat_tests, common_steps) in
    let claims : AreOctets c.args.claims.now = subst AreOctets c.octets.ensures c.in_ok-payload.ensures.octets in
    answered (λ (t : List ℕ). (most : ℕ) → length c.args.pairs.now ≤ most → IsSignedToken most t (general_signed typ c.args.claims.now pairs)) c.general_token.result
    (first_unfit 0 pairs) left (pair_costs typ c.args.claims.now pairs) (general_token (spelling c.args.claims.now) (map made pairs))
    (rw same at c.general_token.ensures.answer)
    (λ most few. c.general_tokens_are_signed.ensures most typ c.args.claims.now pairs (omega (arith, some)) (omega arith) c.in_ok-signers.ensures.utf8 claims)
