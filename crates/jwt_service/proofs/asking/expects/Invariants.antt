use Rattle.std.proofs.Common.{◌≡◌, drop}
use Rattle.std.specs.List.{list_any}
use Rattle.std.specs.Str.{bytes_eq}
use Rattle.jwt_service.proofs.asking.expects.Given as goal

abbrev pub invariant-loop-expected : goal.invariant-loop-expected
invariant-loop-expected l = list_any (λ it. bytes_eq it.claim.now l.name) (drop l.expected-index l.call.expected.now) ≡ list_any (λ it. bytes_eq it.claim.now l.name) l.call.expected.now
