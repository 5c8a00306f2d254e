use Rattle.std.proofs.Common.{arith, map, sym, ◌∙◌}
use Rattle.jwt_jws.specs.Views.{parts}
use Rattle.jwt_jws.proofs.Each.{later}
use Rattle.jwt_jws.proofs.signed.Signed.signature.Goals as goal

pub returns-else-i-eq0 : goal.returns-else-i-eq0
returns-else-i-eq0 c =
    c.later.ensures ∙ sym (later (parts c.args.self.now.first) (map parts c.args.self.now.more.items) c.args.i (λ e. absurd (omega (arith, e, c.if-i-eq0.false))))
