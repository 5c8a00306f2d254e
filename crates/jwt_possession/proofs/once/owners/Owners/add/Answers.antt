use Rattle.std.proofs.Common.{Some, ◌+◌, ℕ, ap}
use Rattle.jwt_possession.proofs.Numbers.{counts_more}
use Rattle.jwt_possession.proofs.OncePlaces.{whole_more, whole_less, unplaced}
use Rattle.jwt_possession.proofs.once.owners.Owners.add.Goals as goal

pub invariant_of-self-in-Ok : goal.invariant_of-self-in-Ok
invariant_of-self-in-Ok c = record {
  whole = whole_more c.args.self.now.places c.insert.new.self c.args.owner.now c.args.moment c.args.mark.now (λ o u q. c.in_ok-insert.ensures.updates.0 (o, (u, q))) c.told-mark c.args.self.now.whole;
}

pub invariant_of-self-in-Err : goal.invariant_of-self-in-Err
invariant_of-self-in-Err c = record {
  whole = whole_less c.insert.new.self c.remove.new.self c.args.owner.now c.args.moment c.args.mark.now (λ o u q. c.remove.ensures.updates.0 (o, (u, q)))
      (whole_more c.args.self.now.places c.insert.new.self c.args.owner.now c.args.moment c.args.mark.now (λ o u q. c.in_ok-insert.ensures.updates.0 (o, (u, q))) c.told-mark c.args.self.now.whole);
}

pub returns-in-Ok-clause-places : goal.returns-in-Ok-clause-places
returns-in-Ok-clause-places c = λ whose its other. c.in_ok-insert.ensures.updates.0 (whose, (its, other))

pub returns-in-Ok-clause-numbers : goal.returns-in-Ok-clause-numbers
returns-in-Ok-clause-numbers c = counts_more c.args.self.now.numbers c.insert-2.new.self c.args.owner.now (Some (c.number-number.result + 1)) c.in-Ok.ensures.updates.0 (ap (λ (n : ℕ). n + 1) c.number-number.ensures)

pub returns-in-Err-clause-same_places : goal.returns-in-Err-clause-same_places
returns-in-Err-clause-same_places c =
    unplaced c.args.self.now.places c.insert.new.self c.remove.new.self c.args.owner.now c.args.moment c.args.mark.now
    (λ o u q. c.in_ok-insert.ensures.updates.0 (o, (u, q))) (λ o u q. c.remove.ensures.updates.0 (o, (u, q))) c.requires.absent
