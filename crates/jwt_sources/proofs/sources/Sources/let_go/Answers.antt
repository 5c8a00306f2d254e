use Rattle.std.proofs.Common.{◌≡◌, ◌<◌, ◌≤◌, Some, length, arith}
use Rattle.std.specs.List.{slice_get}
use Rattle.std.proofs.lemmas.Option.{slice_get_read}
use Rattle.jwt_sources.specs.Changes.{IsLetGo}
use Rattle.jwt_sources.proofs.Each.{more_changed, all_changed}
use Rattle.jwt_sources.proofs.sources.Sources.let_go.Goals as goal

pub loop-at-preserved : goal.loop-at-preserved
loop-at-preserved g c =
    let inside : c.loop-at.at < c.loop-at.self.sources.len = omega (arith, c.loop-at-test.true, c.len-at-end.ensures, c.loop-at.invariant.len) in
    let at : slice_get c.loop-at.self.sources.items c.loop-at.at ≡ Some c.index_mut-source.result.now =
    slice_get_read c.loop-at.self.sources.items c.loop-at.self.sources.len c.loop-at.at c.index_mut-source.result.now c.loop-at.self.sources.ok.0 inside c.index_mut-source.ensures.value in
    more_changed c.loop-at.at c.args.self.now c.loop-at.self (λ one other. IsLetGo one c.args.now other) c.index_mut-source.result.now c.let_go.new.self at c.let_go.ensures c.loop-at.invariant

pub returns : goal.returns
returns g c =
    let old_end : length c.args.self.now.sources.items ≤ c.loop-at.at = omega (arith, c.loop-at-test.false, c.len-at-end.ensures, c.args.self.now.sources.ok.0) in
    let new_end : length c.loop-at.self.sources.items ≤ c.loop-at.at =
    omega (arith, c.loop-at-test.false, c.len-at-end.ensures, c.loop-at.self.sources.ok.0, c.loop-at.invariant.len) in
    (all_changed c.loop-at.at c.args.self.now c.loop-at.self (λ one other. IsLetGo one c.args.now other) old_end new_end c.loop-at.invariant, c.loop-at.invariant.tickets)
