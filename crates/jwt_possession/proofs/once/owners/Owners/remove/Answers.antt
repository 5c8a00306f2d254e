use Rattle.std.proofs.Common.{Some, None, ◌-◌, arith}
use Rattle.jwt_possession.proofs.Numbers.{counts_less}
use Rattle.jwt_possession.proofs.OncePlaces.{whole_less}
use Rattle.jwt_possession.proofs.once.owners.Owners.remove.Goals as goal

pub invariant_of-self : goal.invariant_of-self
invariant_of-self c = record {
  whole = whole_less c.args.self.now.places c.remove.new.self c.args.owner.now c.args.moment c.args.mark.now (λ o u q. c.remove.ensures.updates.0 (o, (u, q))) c.args.self.now.whole;
}

pub returns-then-number-eq1-clause-places : goal.returns-then-number-eq1-clause-places
returns-then-number-eq1-clause-places c = λ whose its other. c.remove.ensures.updates.0 (whose, (its, other))

pub returns-then-number-eq1-clause-numbers : goal.returns-then-number-eq1-clause-numbers
returns-then-number-eq1-clause-numbers c =
    counts_less c.args.self.now.numbers c.remove-then-number-eq1.new.self c.args.owner.now None c.remove-then-number-eq1.ensures.updates.0 (omega (arith, c.number-number.ensures, c.if-number-eq1.true))

pub invariant_of-self-2 : goal.invariant_of-self-2
invariant_of-self-2 c = record {
  whole = whole_less c.args.self.now.places c.remove.new.self c.args.owner.now c.args.moment c.args.mark.now (λ o u q. c.remove.ensures.updates.0 (o, (u, q))) c.args.self.now.whole;
}

pub returns-in-Ok-clause-places : goal.returns-in-Ok-clause-places
returns-in-Ok-clause-places c = λ whose its other. c.remove.ensures.updates.0 (whose, (its, other))

pub returns-in-Ok-clause-numbers : goal.returns-in-Ok-clause-numbers
returns-in-Ok-clause-numbers c =
    counts_less c.args.self.now.numbers c.insert.new.self c.args.owner.now (Some (c.number-number.result - 1)) c.in-Ok.ensures.updates.0 (omega (arith, c.number-number.ensures, c.requires))
