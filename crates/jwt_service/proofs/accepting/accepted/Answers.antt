use Rattle.std.proofs.Common.{map}
use Rattle.jwt_service.proofs.accepting.accepted.Goals as goal

pub returns-in-Err : goal.returns-in-Err
returns-in-Err g c = c.in-Err.ensures (map (λ b. (goal.Verifier-dyn g (b.vtable, b.value)).meaning b.value) c.args.verifiers.now)

pub judged-verdict-requires : goal.judged-verdict-requires
judged-verdict-requires g c =
    let v = map (λ b. (goal.Verifier-dyn g (b.vtable, b.value)).meaning b.value) c.args.verifiers.now in
    (c.in-Ok.shown.token.now, (c.in-Ok.ensures v).2)

pub returns : goal.returns
returns g c =
    let v = map (λ b. (goal.Verifier-dyn g (b.vtable, b.value)).meaning b.value) c.args.verifiers.now in
    let shown = c.in-Ok.ensures v in
    c.accepted_as.ensures c.args.service.now v c.args.call.now shown (c.judged-verdict.ensures c.in-Ok.shown.token.now shown.2)
