use Rattle.std.proofs.Common.{◌≡◌, Some, refl, subst}
use Rattle.std.specs.List.{slice_get}
use Rattle.std.proofs.lemmas.Option.{slice_get_read}
use Rattle.jwt_sources.specs.Changes.{IsWaited}
use Rattle.jwt_sources.proofs.Lists.{set_at, set_other}
use Rattle.jwt_sources.proofs.sources.Sources.wait.Goals as goal

pub returns : goal.returns
returns g c =
    let at : slice_get c.args.self.now.sources.items c.args.at ≡ Some c.index_mut-source.result.now =
    slice_get_read c.args.self.now.sources.items c.args.self.now.sources.len c.args.at c.index_mut-source.result.now c.args.self.now.sources.ok.0 c.requires c.index_mut-source.ensures.value in (
      (
        c.index_mut-source.result.now,
        c.wait.new.self,
        at,
        set_at c.args.self.now.sources.items c.args.at c.index_mut-source.result.now c.wait.new.self at,
        subst (λ name. IsWaited c.index_mut-source.result.now c.args.fetch name c.args.now c.wait.result c.wait.new.self) c.number_of_kid-name.ensures c.wait.ensures,
        λ other apart. set_other c.args.self.now.sources.items c.args.at other c.wait.new.self apart,
      ),
      refl,
    )
