use Rattle.std.proofs.Common.{◌≡◌, map, slice_get, string_bytes, Some, sym, ap, ◌∙◌, arith}
use Rattle.std.proofs.lemmas.Result.{err_from_is_err_and}
use Rattle.jwt_access.specs.MemberKinds.{named}
use Rattle.jwt_access.specs.Views.{further, names_asked}
use Rattle.jwt_access.specs.declared.access_fault.AccessFault.TheVariants.{OutOfMemory}
use Rattle.jwt_access.proofs.Each.{each_more, each_stops}
use Rattle.jwt_access.proofs.NamesLemmas.{viewed_at}
use Rattle.jwt_access.proofs.further_kinds.each_named.Goals as goal

pub returns-in_err-rule : goal.returns-in_err-rule
returns-in_err-rule c =
    let names = map string_bytes c.args.names.now in
    let at : slice_get names c.loop-place.place ≡ Some c.as_str.result.now = viewed_at string_bytes c.args.names.now c.loop-place.place c.index-names-place.result (omega arith) c.index-names-place.is ∙ ap Some (sym c.as_str.ensures.value) in
    let p = err_from_is_err_and c.from_residual.result c.from_residual.ensures.1 in
    rw (p.1, p.2) (each_stops (named (names_asked c.args.kind)) OutOfMemory names c.loop-place.place c.as_str.result.now _ c.in_err-rule.field-0.0 at c.loop-place.invariant c.in_err-rule.ensures)

pub loop-place-preserved : goal.loop-place-preserved
loop-place-preserved c =
    let names = map string_bytes c.args.names.now in
    let at : slice_get names c.loop-place.place ≡ Some c.as_str.result.now = viewed_at string_bytes c.args.names.now c.loop-place.place c.index-names-place.result (omega arith) c.index-names-place.is ∙ ap Some (sym c.as_str.ensures.value) in
    rw c.in_ok-push.ensures.items (each_more (named (names_asked c.args.kind)) further names c.loop-place.place c.as_str.result.now c.loop-place.rules.items c.in_ok-rule.rule at c.loop-place.invariant c.in_ok-rule.ensures)
