use Rattle.std.proofs.Common.{◌<◌, length, arith}
use Rattle.std.proofs.lemmas.Result.{err_from_is_err_and}
use Rattle.serde_json.specs.Data.{null}
use Rattle.jwt_jws.specs.Forms.{spelled_element}
use Rattle.jwt_jws.specs.Views.{spelled_view}
use Rattle.jwt_jws.specs.declared.fault.FormFault.TheVariants.{OutOfMemory}
use Rattle.jwt_jws.proofs.Each.{each_more, each_stops}
use Rattle.jwt_jws.proofs.json.spelled_elements.Goals as goal

pub returns-in_err-element : goal.returns-in_err-element
returns-in_err-element c =
    let p = err_from_is_err_and c.from_residual.result c.from_residual.ensures.1 in
    let lt : c.loop-i.i < length c.args.list.now = omega arith in
    rw (p.1, p.2) (each_stops OutOfMemory spelled_element c.args.list.now c.loop-i.i null _ c.in_err-element.field-0.0 lt c.loop-i.invariant (c.in_err-element.ensures null))

pub loop-i-preserved : goal.loop-i-preserved
loop-i-preserved c =
    let lt : c.loop-i.i < length c.args.list.now = omega arith in
    rw c.in_ok-push.ensures.items (each_more spelled_element spelled_view c.args.list.now c.loop-i.i null c.loop-i.spelled.items c.in_ok-element.element lt c.loop-i.invariant (c.in_ok-element.ensures null))
