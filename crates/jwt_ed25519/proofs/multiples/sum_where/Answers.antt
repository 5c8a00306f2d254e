use Rattle.std.proofs.Common.{Some, sym, ap, ◌∙◌}
use Rattle.std.specs.Prelude.{if◌then◌else◌}
use Rattle.jwt_ed25519.specs.Elements.{coordinates, summed}
use Rattle.jwt_ed25519.specs.Points.{sum_of}
use Rattle.jwt_ed25519.proofs.multiples.sum_where.Goals as goal

pub returns-then-set : goal.returns-then-set
returns-then-set c =
    c.sum.ensures ∙ ap (λ b. if b then sum_of (summed c.args.p) (Some (coordinates c.args.q)) else summed c.args.p) (sym c.if-set.true)

pub returns : goal.returns
returns c = ap (λ b. if b then sum_of (summed c.args.p) (Some (coordinates c.args.q)) else summed c.args.p) (sym c.if-set.false)
