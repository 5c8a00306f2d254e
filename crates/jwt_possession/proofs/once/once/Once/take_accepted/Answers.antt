use Rattle.std.proofs.Common.{◌≡◌, ℕ, ℤ, Ok, subst, rules, w64, to_z, of_z}
use Rattle.jwt_possession.specs.once.Steps.{IsTaken}
use Rattle.jwt_possession.specs.once.Accepted.{seconds, IsEntryOf}
use Rattle.jwt_possession.proofs.Taking.{taken_for}
use Rattle.jwt_possession.proofs.once.once.Once.take_accepted.Goals as goal

pub returns : goal.returns
returns c =
    let entry = c.in_ok-entry.entry in
    let z : to_z w64 (of_z w64 c.args.now) ≡ c.args.now = search rules in
    taken_for c.args.policy.now c.args.claims.now c.args.now c.args.self.now entry c.take_mark.result c.take_mark.new.self
    (subst (λ (n : ℤ). IsEntryOf c.args.policy.now c.args.claims.now n (Ok entry)) z c.in_ok-entry.ensures)
    (subst (λ (n : ℤ). IsTaken c.args.self.now entry.mark entry.owner entry.times (seconds n) c.take_mark.result c.take_mark.new.self) z
    (subst (λ (n : ℕ). IsTaken c.args.self.now entry.mark entry.owner entry.times n c.take_mark.result c.take_mark.new.self) c.seconds.ensures c.take_mark.ensures))
