-- What the first expectation that isn't met says.
use Rattle.std.proofs.Common.{◌↔◌, Option, None, Some, IsNone, refl}
use Rattle.std.specs.Option.{IfSome}
use Rattle.serde_json.specs.Data.{Members}
use Rattle.jwt_mac.specs.declared.algorithm.Alg.{Alg}
use Rattle.jwt_access.specs.declared.expected.expected.Unmet.{Unmet}
use Rattle.jwt_access.specs.expected.Expected.{AreMet}
use Rattle.jwt_access.specs.expected.Unmet.{IsFirstUnmet}
use Rattle.jwt_service.specs.declared.call.Call.{Call}
use Rattle.jwt_service.specs.Expecting.{HasUnmet}

pub told_unmet : (call : Call) (claims : Members) (alg : Alg) (answer : Option Unmet)
    → (IsNone answer ↔ AreMet alg claims call.expected.now) → IfSome answer (IsFirstUnmet alg claims call.expected.now) → HasUnmet call claims alg answer
told_unmet call claims alg None met first = met.0 refl
told_unmet call claims alg (Some unmet) met first = first
