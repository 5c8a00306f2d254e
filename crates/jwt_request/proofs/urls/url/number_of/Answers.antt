use Rattle.std.proofs.Common.{rules, arith, ◌≡◌, ◌+◌, ◌*◌, min, slice_index}
use Rattle.std.specs.Char.{digit_value}
use Rattle.jwt_request.proofs.Steps.{number_step}
use Rattle.jwt_request.proofs.urls.url.number_of.Goals as goal

pub loop-at-preserved : goal.loop-at-preserved
loop-at-preserved c =
    let digit : c.digit_of.result ≡ digit_value (slice_index c.args.digits.now c.loop-at.at) = c.digit_of.ensures.value in
    let is : c.min-number.result ≡ min (c.loop-at.number * 10 + c.digit_of.result) 65536 = search rules in
    record {
      within = omega (arith, c.loop-at-test.true);
      value = rw (is, digit, c.loop-at.invariant.value) (number_step c.args.digits.now c.loop-at.at c.loop-at-test.true);
      few = rw is (omega arith);
    }
