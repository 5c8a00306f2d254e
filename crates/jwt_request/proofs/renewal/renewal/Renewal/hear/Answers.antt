use Rattle.std.proofs.Common.{arith, ◌≡◌, ◌+◌, ◌-◌, min}
use Rattle.jwt_request.specs.renewal.History.{moment, beginnings, newest, keys_since}
use Rattle.jwt_request.specs.renewal.Standing.{age}
use Rattle.jwt_request.proofs.Moments.{keys_past, begun_past, age_later}
use Rattle.jwt_request.proofs.renewal.renewal.Renewal.hear.Goals as goal

pub returns-clause-stands : goal.returns-clause-stands
returns-clause-stands c = λ h s. record {
  run = s.run;
  keys = let grown : min (age (keys_since h) (moment h) + (c.args.now - c.args.self.now.heard)) 18446744073709551615 ≡ age (keys_since h) (moment h + (c.args.now - c.args.self.now.heard)) = age_later (keys_since h) (moment h) (c.args.now - c.args.self.now.heard) (keys_past h) in let was = s.keys in grind (arith, grown, was);
  keys_named = s.keys_named;
  begun = let grown : min (age (newest (beginnings h)) (moment h) + (c.args.now - c.args.self.now.heard)) 18446744073709551615 ≡ age (newest (beginnings h)) (moment h + (c.args.now - c.args.self.now.heard)) = age_later (newest (beginnings h)) (moment h) (c.args.now - c.args.self.now.heard) (begun_past h) in let was = s.begun in grind (arith, grown, was);
  named = s.named;
  is_open = s.is_open;
  waiting = s.waiting;
}
