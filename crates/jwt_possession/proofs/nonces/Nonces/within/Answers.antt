use Rattle.std.proofs.Common.{◌≡◌, [], ◌++◌, length, ap, arith}
use Rattle.jwt_possession.proofs.Encoded.{cost_is_small}
use Rattle.jwt_possession.proofs.nonces.Nonces.within.Goals as goal

pub unreachable-requires : goal.unreachable-requires
unreachable-requires c =
    let number = c.to_be_bytes-number.result ++ [] in
    let eight : length number ≡ 8 = ap (λ t. length (t ++ [])) c.to_be_bytes-number.ensures in
    let small = cost_is_small (length c.args.self.now.secret.now) (length number) in
    omega (arith, small, eight, c.in-Err.ensures.spent, c.new-budget.ensures.octets, c.new-budget.ensures.ceiling)
