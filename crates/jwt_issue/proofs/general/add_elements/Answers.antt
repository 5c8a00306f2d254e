use Rattle.std.proofs.Common.{◌≡◌, ℕ, ◌+◌, ◌-◌, ◌*◌, ◌<◌, ◌≤◌, List, ◌∷◌, [], ◌++◌, length, map, take, drop, cond, nat_lt, Some, sym, ap, ap₂, ◌∙◌, append_assoc, arith}
use Rattle.std.specs.Prelude.{⊤, codes}
use Rattle.std.specs.List.{join_with_byte}
use Rattle.std.proofs.lemmas.List.{length-map}
use Rattle.std.proofs.lemmas.Result.{err_from_is_err_and}
use Rattle.jwt_issue.specs.Issued.{first_spent, signing_cost, signature_element, text_members}
use Rattle.jwt_issue.specs.Views.{signer_parts}
use Rattle.jwt_issue.specs.declared.fault.IssueFault.TheVariants.{Spent}
use Rattle.jwt_issue.proofs.Lengths.{mapped_at}
use Rattle.jwt_issue.proofs.Steps.{sum_more, elements_more, stops_at, goes_on, reached, is_first, paid_after}
use Rattle.jwt_issue.proofs.general.add_elements.Goals as goal

pub returns-in_err-signature-clause-fault : goal.returns-in_err-signature-clause-fault
returns-in_err-signature-clause-fault g c =
    let p = err_from_is_err_and c.from_residual.result c.from_residual.ensures.1 in
    let ss = map signer_parts c.args.signers.now in
    let s = signer_parts c.index-signers-i.result in
    let i = c.loop-i.i in
    let price = signing_cost c.args.payload.now in
    let within : i < length ss = omega (arith, length-map c.args.signers.now signer_parts) in
    let is = mapped_at signer_parts c.args.signers.now i c.index-signers-i.result c.loop-i-test.true c.index-signers-i.is in
    rw (p.1, p.2) (λ some. c.loop-i.invariant.left
    ∙ stops_at price ss i _ s within is (omega (arith, c.in_err-signature.ensures.spent some, g.met.B.Budget.within c.loop-i.budget))
    ∙ ap Some (sym (c.in_err-signature.ensures.fault some)))

pub returns-in_err-signature-clause-paid : goal.returns-in_err-signature-clause-paid
returns-in_err-signature-clause-paid g c =
    let p = err_from_is_err_and c.from_residual.result c.from_residual.ensures.1 in
    let ss = map signer_parts c.args.signers.now in
    let s = signer_parts c.index-signers-i.result in
    let i = c.loop-i.i in
    let price = signing_cost c.args.payload.now in
    let within : i < length ss = omega (arith, length-map c.args.signers.now signer_parts) in
    let is = mapped_at signer_parts c.args.signers.now i c.index-signers-i.result c.loop-i-test.true c.index-signers-i.is in
    let more = sum_more price ss i s within is in
    let kept = c.loop-i.invariant in
    let size = length-map c.args.signers.now signer_parts in
    let first = g.B.Budget.ceiling c.args.budget.now - g.B.Budget.octets c.args.budget.now in
    let left = g.B.Budget.ceiling c.loop-i.budget - g.B.Budget.octets c.loop-i.budget in
    let enough : g.B.Budget.octets c.sign.new.budget ≡ g.B.Budget.octets c.loop-i.budget + 1 * price s → price s ≤ left = λ one. omega (arith, one, g.met.B.Budget.within c.sign.new.budget, c.in_err-signature.ensures.ceiling) in
    rw (p.1, p.2) (paid_after ⊤ c.in_err-signature.field-0.0 i _ _ _
    (reached c.args.payload.now price ss (length c.args.signers.now) i first left size (omega arith) kept.left)
    (λ one. reached c.args.payload.now price ss (length c.args.signers.now) (i + 1) first (left - price s) size (omega arith) (kept.left ∙ goes_on price ss i left s within is (enough one.0)))
    c.in_err-signature.ensures.fault
    (λ none. (omega (arith, none.0, kept.octets), omega (arith, none.1, kept.calls)))
    (λ one. (omega (arith, one.0, kept.octets, more), omega (arith, one.1, kept.calls)))
    c.in_err-signature.ensures.paid)

pub returns-in_err-signature-clause-unchanged : goal.returns-in_err-signature-clause-unchanged
returns-in_err-signature-clause-unchanged g c =
    let p = err_from_is_err_and c.from_residual.result c.from_residual.ensures.1 in
    rw (p.1, p.2) (λ some apart.
    let zero = is_first c.loop-i.i (λ j same. apart j (c.in_err-signature.ensures.fault some ∙ ap Spent same)) in
    c.in_err-signature.ensures.unchanged some ∙ c.loop-i.invariant.first zero)

pub returns-in_err-add_element-clause-paid : goal.returns-in_err-add_element-clause-paid
returns-in_err-add_element-clause-paid g c =
    let p = err_from_is_err_and c.from_residual-in_err-add_element.result c.from_residual-in_err-add_element.ensures.1 in
    let ss = map signer_parts c.args.signers.now in
    let s = signer_parts c.index-signers-i.result in
    let i = c.loop-i.i in
    let price = signing_cost c.args.payload.now in
    let within : i < length ss = omega (arith, length-map c.args.signers.now signer_parts) in
    let is = mapped_at signer_parts c.args.signers.now i c.index-signers-i.result c.loop-i-test.true c.index-signers-i.is in
    let more = sum_more price ss i s within is in
    let kept = c.loop-i.invariant in
    let size = length-map c.args.signers.now signer_parts in
    let first = g.B.Budget.ceiling c.args.budget.now - g.B.Budget.octets c.args.budget.now in
    let left = g.B.Budget.ceiling c.loop-i.budget - g.B.Budget.octets c.loop-i.budget in
    let paid = c.in_ok-signature.ensures.paid in
    let enough : price s ≤ left = omega (arith, c.in_ok-signature.ensures.afforded) in
    let due = reached c.args.payload.now price ss (length c.args.signers.now) (i + 1) first (left - price s) size (omega arith) (kept.left ∙ goes_on price ss i left s within is enough) in
    rw (p.1, p.2) (i + 1, due, (omega (arith, paid.0, kept.octets, more), omega (arith, paid.1, kept.calls)))

pub loop-i-preserved : goal.loop-i-preserved
loop-i-preserved g c =
    let ss = map signer_parts c.args.signers.now in
    let s = signer_parts c.index-signers-i.result in
    let i = c.loop-i.i in
    let payload = c.args.payload.now in
    let within : i < length ss = omega (arith, length-map c.args.signers.now signer_parts) in
    let is = mapped_at signer_parts c.args.signers.now i c.index-signers-i.result c.loop-i-test.true c.index-signers-i.is in
    let kept = c.loop-i.invariant in
    let paid = c.in_ok-signature.ensures.paid in
    let afforded = c.in_ok-signature.ensures.afforded in
    let more = sum_more (signing_cost payload) ss i s within is in
    let added = ap₂ (λ (protected signature : List ℕ). codes "{" ++ text_members protected signature) c.deref.ensures.value (c.deref-in-loop-i.ensures.value ∙ c.in_ok-signature.ensures.text) in
    record {
      text =
          c.in_ok-add_element.ensures
          ∙ ap (λ (t : List ℕ). c.loop-i.token.items ++ (cond (nat_lt 0 i) (44 ∷ []) [] ++ t)) added
          ∙ ap (λ (t : List ℕ). t ++ (cond (nat_lt 0 i) (44 ∷ []) [] ++ signature_element payload s)) kept.text
          ∙ append_assoc c.args.token.now.items (join_with_byte 44 (map (signature_element payload) (take i ss))) (cond (nat_lt 0 i) (44 ∷ []) [] ++ signature_element payload s)
          ∙ ap (λ (t : List ℕ). c.args.token.now.items ++ t) (sym (elements_more (signature_element payload) ss i s within is));
      left =
          kept.left
          ∙ goes_on (signing_cost payload) ss i _ s within is (omega (arith, afforded))
          ∙ ap (λ (left : ℕ). first_spent (i + 1) left (drop (i + 1) (map (signing_cost payload) ss))) (omega (arith, paid.0, c.in_ok-signature.ensures.ceiling));
      octets = omega (arith, paid.0, kept.octets, more);
      calls = omega (arith, paid.1, kept.calls);
      first = λ e. absurd (omega (arith, e));
      ceiling = c.in_ok-signature.ensures.ceiling ∙ kept.ceiling;
    }
