use Rattle.std.proofs.Common.{◌≡◌, ◌+◌, ◌-◌, length, take, drop, arith}
use Rattle.std.proofs.lemmas.Grind.{common_steps}
use Rattle.jwt_jws.proofs.Periods.{period_found}
use Rattle.jwt_jws.proofs.compact.cut.Goals as goal

pub returns-in-Some : goal.returns-in-Some
returns-in-Some c =
    let z = c.args.octets.now in
    let i = c.in-Some.i in
    let all : take (length z - (i + 1)) (drop (i + 1) z) ≡ drop (i + 1) z = grind (arith, common_steps) in
    rw all ((period_found _ _ c.in-Some.ensures).parts)
