use Rattle.std.proofs.Common.{List, slice_get, option_and_then, ap, ◌∙◌}
use Rattle.serde_json.specs.Data.{Data}
use Rattle.serde_json.specs.Find.{as_bool}
use Rattle.jwt_text.specs.Flat.{most}
use Rattle.jwt_text.proofs.KindLemmas.{flag_in, none_past}
use Rattle.jwt_text.proofs.lent.List.flag.Goals as goal

pub returns-then-place-self : goal.returns-then-place-self
returns-then-place-self c =
    c.as_flag.ensures
    ∙ flag_in most c.self.inside.store.now c.self.inside.nodes.now c.args.place _ c.if-place-self.true
    ∙ ap (λ (ds : List Data). option_and_then as_bool (slice_get ds c.args.place)) c.self.view_is

pub returns-else-place-self : goal.returns-else-place-self
returns-else-place-self c =
    ap (λ d. option_and_then as_bool d) (none_past most c.self.inside.store.now c.self.inside.nodes.now c.args.place c.if-place-self.false)
    ∙ ap (λ (ds : List Data). option_and_then as_bool (slice_get ds c.args.place)) c.self.view_is
