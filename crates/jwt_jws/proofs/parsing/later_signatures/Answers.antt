use Rattle.std.proofs.Common.{◌≡◌, ◌<◌, ◌+◌, Ok, length, get_or, arith}
use Rattle.std.specs.Prelude.{map}
use Rattle.std.proofs.lemmas.Result.{err_from_is_err_and}
use Rattle.std.proofs.lemmas.Grind.{common_steps}
use Rattle.std.proofs.lemmas.List.{get_or-map, length-map}
use Rattle.jwt_jws.specs.Forms.{signature_of}
use Rattle.jwt_text.specs.Answers.{Refuses}
use Rattle.jwt_jws.specs.Views.{spelled_view, parts}
use Rattle.jwt_jws.specs.declared.fault.FormFault.TheVariants.{OutOfMemory}
use Rattle.jwt_jws.proofs.Each.{each_more_from, each_stops_from}
use Rattle.jwt_jws.proofs.parsing.later_signatures.Goals as goal

pub returns-in_err-made-clause-value : goal.returns-in_err-made-clause-value
returns-in_err-made-clause-value c =
    let p = err_from_is_err_and c.from_residual-in_err-made.result c.from_residual-in_err-made.ensures.1 in
    let xs = c.args.spelled.now in
    let i = c.loop-i.i in
    let x = c.index-spelled-i.result in
    let lt : i < length (map spelled_view xs) = simp length-map c.loop-i-test.true in
    let here : Refuses OutOfMemory c.in_err-made.field-0.0 (signature_of c.args.form (1 + i) (get_or (map spelled_view xs) i (spelled_view x))) = rw (get_or-map spelled_view xs i x (spelled_view x) c.loop-i-test.true, ← c.index-spelled-i.is) c.in_err-made.ensures in
    rw (p.1, p.2) (each_stops_from OutOfMemory (signature_of c.args.form) 1 (map spelled_view xs) i (spelled_view x) _ c.in_err-made.field-0.0 lt c.loop-i.invariant.made here)

pub loop-i-preserved : goal.loop-i-preserved
loop-i-preserved c =
    let xs = c.args.spelled.now in
    let i = c.loop-i.i in
    let x = c.index-spelled-i.result in
    let lt : i < length (map spelled_view xs) = simp length-map c.loop-i-test.true in
    let here : signature_of c.args.form (1 + i) (get_or (map spelled_view xs) i (spelled_view x)) ≡ Ok (parts c.in_ok-made.made) = rw (get_or-map spelled_view xs i x (spelled_view x) c.loop-i-test.true, ← c.index-spelled-i.is) c.in_ok-made.ensures in
    record {
      made = rw c.in_ok-push.ensures.items (each_more_from (signature_of c.args.form) 1 parts (map spelled_view xs) i (spelled_view x) c.loop-i.signatures.items c.in_ok-made.made lt c.loop-i.invariant.made here);
      count = grind (arith, common_steps);
    }
