use Rattle.std.proofs.Common.{sym, ap, ◌∙◌}
use Rattle.std.specs.List.{list_any}
use Rattle.jwt_text.specs.Flat.{most}
use Rattle.jwt_text.specs.Members.{has, member_names}
use Rattle.jwt_text.proofs.Seen.{names-data}
use Rattle.jwt_text.proofs.lent.ObjectRef.shares_name.Goals as goal

pub returns : goal.returns
returns c =
    c.share_name.ensures
    ∙ ap (list_any (λ name. has name c.args.other.now)) (sym (names-data most c.self.inside.store.now c.self.inside.entries.now) ∙ ap member_names c.self.view_is)
