use Rattle.std.proofs.Common.{◌≡◌, not, drop}
use Rattle.std.specs.List.{list_any}
use Rattle.jwt_mac.specs.Algorithm.{is_hmac_alg}
use Rattle.jwt_command.proofs.verify.has_public.Given as goal

abbrev pub invariant-loop-alg : goal.invariant-loop-alg
invariant-loop-alg l = list_any (λ a. not (is_hmac_alg a)) (drop l.alg-index l.algs) ≡ list_any (λ a. not (is_hmac_alg a)) l.algs
