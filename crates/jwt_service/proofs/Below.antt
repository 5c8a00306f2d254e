-- The laws of the crates below.
use Rattle.std.proofs.Common.{List}
use Rattle.serde_json.specs.Data.{Members}
use Rattle.jwt_mac.specs.declared.algorithm.Alg.{Alg}
use Rattle.jwt_access.specs.declared.expected.expected.Expected.{Expected}
use Rattle.jwt_access.specs.declared.expected.expected.Unmet.{Unmet}
use Rattle.jwt_access.specs.expected.Expected.{AreMet}
use Rattle.jwt_access.specs.expected.Unmet.{IsFirstUnmet}
use Rattle.jwt_request.specs.Laws.{OneFound}
use Rattle.jwt_verify.specs.Accepted.{HasOneVerdict, TellsTokens}
use Rattle.jwt_possession.specs.Laws.{OneOwnKey, ProofsHaveNoFault}

pub record Below : Type 0 where
  pub found : OneFound
  pub verdict : HasOneVerdict
  pub tokens : TellsTokens
  pub unmet : (alg : Alg) (claims : Members) (list : List Expected) (a : Unmet) → IsFirstUnmet alg claims list a → ¬ AreMet alg claims list
  pub proofs : ProofsHaveNoFault
  pub own_key : OneOwnKey
