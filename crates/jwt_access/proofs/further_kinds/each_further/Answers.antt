use Rattle.std.proofs.Common.{◌≡◌, slice_get, Some, arith}
use Rattle.std.proofs.lemmas.Result.{err_from_is_err_and}
use Rattle.jwt_text.specs.Members.{member_names}
use Rattle.jwt_access.specs.MemberKinds.{further_in}
use Rattle.jwt_access.specs.Views.{further, values_asked}
use Rattle.jwt_access.specs.declared.access_fault.AccessFault.TheVariants.{OutOfMemory}
use Rattle.jwt_access.proofs.Each.{each_more, each_stops, each_all}
use Rattle.jwt_access.proofs.NamesLemmas.{length_names}
use Rattle.jwt_access.proofs.further_kinds.each_further.Goals as goal

pub returns-in_err-rule : goal.returns-in_err-rule
returns-in_err-rule c =
    let ms = c.args.members.now in
    let at : slice_get (member_names ms) c.loop-place.place ≡ Some c.in-Some.name.now = grind arith in
    let p = err_from_is_err_and c.from_residual.result c.from_residual.ensures.1 in
    rw (p.1, p.2) (each_stops (further_in (values_asked c.args.kind) ms) OutOfMemory (member_names ms) c.loop-place.place c.in-Some.name.now _ c.in_err-rule.field-0.0 at c.loop-place.invariant c.in_err-rule.ensures)

pub loop-place-preserved : goal.loop-place-preserved
loop-place-preserved c =
    let ms = c.args.members.now in
    let at : slice_get (member_names ms) c.loop-place.place ≡ Some c.in-Some.name.now = grind arith in
    rw c.in_ok-push.ensures.items (each_more (further_in (values_asked c.args.kind) ms) further (member_names ms) c.loop-place.place c.in-Some.name.now c.loop-place.rules.items c.in_ok-rule.rule at c.loop-place.invariant c.in_ok-rule.ensures)

pub returns : goal.returns
returns c = each_all (further_in (values_asked c.args.kind) c.args.members.now) (member_names c.args.members.now) c.loop-place.place _ (omega (arith, length_names c.args.members.now)) c.loop-place.invariant
