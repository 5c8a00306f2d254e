use Rattle.std.proofs.Common.{length, ◌≡◌, inl, inr, arith}
use Rattle.std.proofs.lemmas.Bool.{cases_lt, false≢true}
use Rattle.jwt_possession.proofs.Queue.{named, no_later, none_held}
use Rattle.jwt_possession.proofs.once.table.Table.earliest.Goals as goal

pub returns-in-Some-clause-held : goal.returns-in-Some-clause-held
returns-in-Some-clause-held c = named c.args.self.now.held c.args.self.now.turns c.args.self.now.named c.in-Some.turn.now.1 c.in-Some.turn.now.0 c.in-Some.ensures.member

pub returns-in-Some-clause-least : goal.returns-in-Some-clause-least
returns-in-Some-clause-least c = λ mark its held. no_later c.in-Some.turn.now.0 its.moment c.in-Some.turn.now.1 mark (c.in-Some.ensures.least (its.moment, mark) (c.args.self.now.queued mark its held))

pub returns-in-None-clause-none : goal.returns-in-None-clause-none
returns-in-None-clause-none c =
    let empty : length c.args.self.now.turns.keys ≡ 0 = elim (cases_lt 0 (length c.args.self.now.turns.keys)) [
      | inl lt ↦ absurd (false≢true (c.in-None.ensures.variant.1 lt))
      | inr le ↦ omega (arith, le)
    ] in
    none_held c.args.self.now.held c.args.self.now.turns c.args.self.now.queued empty
