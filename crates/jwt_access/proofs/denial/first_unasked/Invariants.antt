use Rattle.std.proofs.Common.{◌≡◌, drop, map}
use Rattle.jwt_access.specs.Denials.{first_unasked}
use Rattle.jwt_access.specs.Views.{further}
use Rattle.jwt_access.proofs.denial.first_unasked.Given as goal

abbrev pub invariant-loop-rule : goal.invariant-loop-rule
invariant-loop-rule l = first_unasked l.moment l.claims (map further (drop l.rule-index l.rules)) ≡ first_unasked l.moment l.claims (map further l.rules)
