use Rattle.std.proofs.Common.{◌≡◌, ◌≤◌, ℕ, length, map, SomeIff, subst, sym, ◌∙◌, arith}
use Rattle.std.proofs.lemmas.List.{take_all, length-map}
use Rattle.jwt_text.specs.declared.limits.TheConstants.{LONGEST_TOKEN}
use Rattle.jwt_issue.specs.Issued.{general_token}
use Rattle.jwt_issue.specs.Views.{signer_parts}
use Rattle.jwt_issue.proofs.Lengths.{length_share, length_general, shares_more, shares_within}
use Rattle.jwt_issue.proofs.size.general_len.Goals as goal
use Rattle.jwt_issue.proofs.size.general_len.Goals.{then-len-gt-MOST-via-then-len-gt-MOST, then-len-gt-MOST-via-else-len-gt-MOST+then-len-gt-MOST-2}

pub returns-then-len-gt-MOST : goal.returns-then-len-gt-MOST
returns-then-len-gt-MOST c =
    let signers = c.args.signers.now in
    let payload = c.args.payload.now in
    let whole = length_general payload (map signer_parts signers) (omega (arith, length-map signers signer_parts)) in
    let within = shares_within payload signer_parts signers c.loop-signer.signer-index c.signer-item.result (omega arith) c.signer-item.is in
    let own = length_share payload (signer_parts c.signer-item.result) in
    elim c.then-len-gt-MOST.branch [
      | then-len-gt-MOST-via-then-len-gt-MOST w ↦ (λ few. omega (arith, whole, within, own, few, w.if-len-gt-MOST.true, c.loop-signer.invariant))
      | then-len-gt-MOST-via-else-len-gt-MOST+then-len-gt-MOST-2 w ↦ (λ few. omega (arith, whole, within, own, few, w.if-len-gt-MOST-2.true, w.len.ensures))
    ]

pub loop-signer-preserved : goal.loop-signer-preserved
loop-signer-preserved c =
    let signers = c.args.signers.now in
    let payload = c.args.payload.now in
    let more = shares_more payload signer_parts signers c.loop-signer.signer-index c.signer-item.result (omega arith) c.signer-item.is in
    let own = length_share payload (signer_parts c.signer-item.result) in
    let text = c.signature_len.ensures.is payload in
    omega (arith, more, own, text, c.loop-signer.invariant)

pub returns : goal.returns
returns c =
    let signers = c.args.signers.now in
    let payload = c.args.payload.now in
    let whole = length_general payload (map signer_parts signers) (omega (arith, length-map signers signer_parts)) in
    let all = take_all c.loop-signer.signer-index (map signer_parts signers) (omega (arith, length-map signers signer_parts)) in
    let len = c.loop-signer.invariant in
    let same : c.loop-signer.len ≡ length (general_token payload (map signer_parts signers)) = rw all at len ∙ sym whole in
    subst (λ (n : ℕ). SomeIff c.at_most.result (n ≤ LONGEST_TOKEN) n) same c.at_most.ensures
