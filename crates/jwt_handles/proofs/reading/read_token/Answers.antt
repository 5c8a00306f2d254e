use Rattle.jwt_jws.specs.Views.{token}
use Rattle.jwt_handles.proofs.reading.read_token.Goals as goal

pub returns-in-Ok : goal.returns-in-Ok
returns-in-Ok c =
    let is = rw c.in-Ok.is at c.read_token.ensures.token in
    (c.tells_tokens.ensures.token c.args.policy.now c.args.octets.now (token c.in-Ok.signed)).1 is
