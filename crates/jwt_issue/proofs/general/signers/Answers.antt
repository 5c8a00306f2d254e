use Rattle.std.proofs.Common.{◌≡◌, ◌<◌, List, ◌∷◌, [], ◌++◌, Option, length, get_or, map, take, Some, Ok, sym, ap, subst, ◌∙◌, arith}
use Rattle.std.proofs.lemmas.List.{length-map, map_push, take_all}
use Rattle.std.proofs.lemmas.List.Elements.{All-more}
use Rattle.std.proofs.lemmas.Result.{err_from_is_err_and}
use Rattle.jwt_text.specs.Answers.{unless}
use Rattle.jwt_issue.specs.Issued.{PairParts, SignerParts, unfit, signer_of}
use Rattle.jwt_issue.specs.Views.{pair_parts, optional_text, signer_parts}
use Rattle.jwt_issue.specs.declared.fault.IssueFault.{IssueFault}
use Rattle.jwt_issue.specs.declared.signer.Signer.{Signer}
use Rattle.jwt_issue.proofs.Fit.{IsUtf8Header, fit_answer, fit_refuses, next_fits, next_unfit, signers_more}
use Rattle.jwt_issue.proofs.Lengths.{mapped_at}
use Rattle.jwt_issue.proofs.general.signers.Goals as goal

pub returns-in_err-new-clause-answer : goal.returns-in_err-new-clause-answer
returns-in_err-new-clause-answer c =
    let p = err_from_is_err_and c.from_residual-in_err-new.result c.from_residual-in_err-new.ensures.1 in
    let pairs = map pair_parts c.args.pairs.now in
    let pair : PairParts = pair_parts c.index-pairs-i.result in
    let i = c.loop-i.i in
    let fault = c.in_err-new.field-0.0 in
    let within : i < length pairs = omega (arith, length-map c.args.pairs.now pair_parts) in
    let is : pair ≡ get_or pairs i pair = mapped_at pair_parts c.args.pairs.now i c.index-pairs-i.result c.loop-i-test.true c.index-pairs-i.is in
    rw (p.1, p.2) (λ some.
    let here : unfit i pair ≡ Some fault = fit_refuses (unfit i pair) (signer_of (optional_text c.args.typ) pair) fault (c.in_err-new.ensures.answer some) in
    ap (λ (f : Option IssueFault). unless f (Ok (map (signer_of (optional_text c.args.typ)) pairs))) (c.loop-i.invariant.fit ∙ next_unfit pairs i pair fault within is here))

pub loop-i-preserved : goal.loop-i-preserved
loop-i-preserved c =
    let pairs = map pair_parts c.args.pairs.now in
    let pair : PairParts = pair_parts c.index-pairs-i.result in
    let i = c.loop-i.i in
    let made : PairParts → SignerParts = signer_of (optional_text c.args.typ) in
    let within : i < length pairs = omega (arith, length-map c.args.pairs.now pair_parts) in
    let is : pair ≡ get_or pairs i pair = mapped_at pair_parts c.args.pairs.now i c.index-pairs-i.result c.loop-i-test.true c.index-pairs-i.is in
    let fit = fit_answer (unfit i pair) (made pair) (signer_parts c.in_ok-new.field-0) c.in_ok-new.ensures.answer in
    record {
      fit = c.loop-i.invariant.fit ∙ next_fits pairs i pair within is fit.0;
      made =
          ap (λ (xs : List Signer). map signer_parts xs) c.in_ok-push.ensures.items
          ∙ map_push signer_parts c.loop-i.signers.items c.in_ok-new.field-0
          ∙ ap (λ (ss : List SignerParts). ss ++ signer_parts c.in_ok-new.field-0 ∷ []) c.loop-i.invariant.made
          ∙ ap (λ (s : SignerParts). map made (take i pairs) ++ s ∷ []) (sym fit.1)
          ∙ sym (signers_more made pairs i pair within is);
      utf8 = All-more (IsUtf8Header (optional_text c.args.typ)) pairs i pair within c.loop-i.invariant.utf8 (subst (IsUtf8Header (optional_text c.args.typ)) is c.in_ok-new.ensures.utf8);
    }

pub returns-clause-utf8 : goal.returns-clause-utf8
returns-clause-utf8 c =
    let all = take_all c.loop-i.i (map pair_parts c.args.pairs.now) (omega (arith, length-map c.args.pairs.now pair_parts)) in
    rw all at c.loop-i.invariant.utf8
