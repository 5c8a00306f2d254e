use Rattle.std.proofs.Common.{◌≡◌, drop}
use Rattle.std.specs.List.{list_any}
use Rattle.jwt_mac.specs.Algorithm.{is_hmac_alg}
use Rattle.jwt_handles.proofs.issuers.some_is_hmac.Given as goal

-- one of the rest is where one of all is
abbrev pub invariant-loop-alg : goal.invariant-loop-alg
invariant-loop-alg l = list_any is_hmac_alg (drop l.alg-index l.algs) ≡ list_any is_hmac_alg l.algs
