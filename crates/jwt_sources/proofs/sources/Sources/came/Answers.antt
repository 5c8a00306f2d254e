use Rattle.std.proofs.Common.{rules, ◌≡◌, [], Some, refl, subst}
use Rattle.std.specs.List.{slice_get}
use Rattle.std.proofs.lemmas.Option.{slice_get_read}
use Rattle.jwt_sources.specs.Follows.{IsAfterStep, told_of}
use Rattle.jwt_sources.specs.Places.{in_file, named}
use Rattle.jwt_sources.proofs.Lists.{one_at, set_at, set_other}
use Rattle.jwt_sources.proofs.sources.Sources.came.Goals as goal

pub returns-clause-call : goal.returns-clause-call
returns-clause-call g c =
    let read : slice_get c.args.self.now.sources.items c.in-Some.at ≡ Some c.index.result.now =
    slice_get_read c.args.self.now.sources.items c.args.self.now.sources.len c.in-Some.at c.index.result.now c.args.self.now.sources.ok.0 c.in-Some.ensures.within c.index.ensures in
    let at : slice_get c.args.self.now.sources.items c.in-Some.at ≡ Some c.index_mut-source.result.now =
    slice_get_read c.args.self.now.sources.items c.args.self.now.sources.len c.in-Some.at c.index_mut-source.result.now c.args.self.now.sources.ok.0 c.in-Some.ensures.within c.index_mut-source.ensures.value in (
      named c.index_mut-source.result.now.place,
      (
        (
          c.index_mut-source.result.now,
          c.end-end.new.self,
          at,
          set_at c.args.self.now.sources.items c.in-Some.at c.index_mut-source.result.now c.end-end.new.self at,
          (
            refl,
            record {
              waited = c.in-Some.ensures.waits c.index_mut-source.result.now at;
              waits = c.end-end.ensures.out;
              keys = c.end-end.ensures.keys;
              place = c.end-end.ensures.place;
              times = c.end-end.ensures.times;
              heard = c.end-end.ensures.heard;
              renewed = c.end-end.ensures.stands;
            },
            (
              c.in_ok-follows.follows,
              subst (λ x. IsAfterStep x.place x.step c.args.status c.args.location.now c.args.content.now (told_of c.in_ok-follows.follows))
                  (one_at c.args.self.now.sources.items c.in-Some.at c.index.result.now c.index_mut-source.result.now read at) c.in_ok-follows.ensures,
              c.end-end.ensures.step,
              c.end-end.ensures.came,
            ),
          ),
          λ other apart. set_other c.args.self.now.sources.items c.in-Some.at other c.end-end.new.self apart,
        ),
        refl,
      ),
    )

pub returns-in_default-clause-call : goal.returns-in_default-clause-call
returns-in_default-clause-call g c = (in_file [], ((refl, search rules), refl))
