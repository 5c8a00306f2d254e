use Rattle.std.proofs.Common.{◌≡◌, Some, None, IfNone, OnSome, subst}
use Rattle.std.specs.List.{slice_get}
use Rattle.std.proofs.lemmas.Option.{slice_get_read}
use Rattle.jwt_request.specs.renewal.Rules.{IsUsable}
use Rattle.jwt_request.specs.renewal.Standing as Renewed
use Rattle.jwt_sources.proofs.Lists.{if_some, one_at}
use Rattle.jwt_sources.proofs.sources.Sources.keys.Goals as goal

pub returns-clause-own : goal.returns-clause-own
returns-clause-own g c =
    let at : slice_get c.args.self.now.sources.items c.args.at ≡ Some c.index.result.now =
    slice_get_read c.args.self.now.sources.items c.args.self.now.sources.len c.args.at c.index.result.now c.args.self.now.sources.ok.0 c.requires c.index.ensures in
    if_some c.keys.result _ _ (λ it own. (c.index.result.now, at, own)) c.keys.ensures.own

pub returns-clause-young : goal.returns-clause-young
returns-clause-young g c =
    let at : slice_get c.args.self.now.sources.items c.args.at ≡ Some c.index.result.now =
    slice_get_read c.args.self.now.sources.items c.args.self.now.sources.len c.args.at c.index.result.now c.args.self.now.sources.ok.0 c.requires c.index.ensures in
    λ source h is. subst (λ x. Renewed.Stands x.renewal h → OnSome c.keys.result (IsUsable x.renewal.times h))
    (one_at c.args.self.now.sources.items c.args.at c.index.result.now source at is) (c.keys.ensures.young h)

pub returns-clause-none : goal.returns-clause-none
returns-clause-none g c =
    let at : slice_get c.args.self.now.sources.items c.args.at ≡ Some c.index.result.now =
    slice_get_read c.args.self.now.sources.items c.args.self.now.sources.len c.args.at c.index.result.now c.args.self.now.sources.ok.0 c.requires c.index.ensures in
    λ source h is. subst (λ x. Renewed.Stands x.renewal h → IsUsable x.renewal.times h → IfNone c.keys.result (x.keys ≡ None))
    (one_at c.args.self.now.sources.items c.args.at c.index.result.now source at is) (c.keys.ensures.none h)
