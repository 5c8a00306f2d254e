use Rattle.std.proofs.Common.{◌≡◌, Some, refl}
use Rattle.std.specs.List.{slice_get}
use Rattle.std.proofs.lemmas.Option.{slice_get_read}
use Rattle.jwt_sources.specs.Places.{named}
use Rattle.jwt_sources.proofs.Lists.{set_at, set_other}
use Rattle.jwt_sources.proofs.sources.Sources.next.Goals as goal

pub returns-clause-call : goal.returns-clause-call
returns-clause-call g c =
    let at : slice_get c.args.self.now.sources.items c.in-Some.due.source ≡ Some c.index_mut-source.result.now =
    slice_get_read c.args.self.now.sources.items c.args.self.now.sources.len c.in-Some.due.source c.index_mut-source.result.now c.args.self.now.sources.ok.0 c.in-Some.ensures.inside c.index_mut-source.ensures.value in (
      named c.index_mut-source.result.now.place,
      (
        (
          c.index_mut-source.result.now,
          c.hand_out.new.self,
          at,
          set_at c.args.self.now.sources.items c.in-Some.due.source c.index_mut-source.result.now c.hand_out.new.self at,
          (refl, c.hand_out.ensures),
          λ other apart. set_other c.args.self.now.sources.items c.in-Some.due.source other c.hand_out.new.self apart,
        ),
        refl,
        refl,
      ),
    )

pub hand_out-requires : goal.hand_out-requires
hand_out-requires g c =
    let at : slice_get c.args.self.now.sources.items c.in-Some.due.source ≡ Some c.index_mut-source.result.now =
    slice_get_read c.args.self.now.sources.items c.args.self.now.sources.len c.in-Some.due.source c.index_mut-source.result.now c.args.self.now.sources.ok.0 c.in-Some.ensures.inside c.index_mut-source.ensures.value in
    c.in-Some.ensures.due.1 c.index_mut-source.result.now at
