use Rattle.jwt_service.proofs.recalling.verified_in.Goals as goal

pub verified_by-requires-clause-alg : goal.verified_by-requires-clause-alg
verified_by-requires-clause-alg c =
    let won = c.in-Ok.ensures.accepted in
    (c.requires c.in-Ok.signature won.0 won.1 won.2).0

pub verified_by-requires-clause-claims : goal.verified_by-requires-clause-claims
verified_by-requires-clause-claims c =
    let won = c.in-Ok.ensures.accepted in
    (won.1, (c.requires c.in-Ok.signature won.0 won.1 won.2).1)

pub returns-in-Ok-verified_by-clause-accepted : goal.returns-in-Ok-verified_by-clause-accepted
returns-in-Ok-verified_by-clause-accepted c =
    let won = c.in-Ok.ensures.accepted in
    (c.in-Ok.signature, won.0, won.1, won.2, c.in-Ok-verified_by.ensures.alg, c.in-Ok-verified_by.ensures.claims)
