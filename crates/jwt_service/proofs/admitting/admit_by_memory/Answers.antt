use Rattle.std.proofs.Common.{map}
use Rattle.jwt_service.proofs.admitting.admit_by_memory.Goals as goal

pub returns-clause-admission : goal.returns-clause-admission
returns-clause-admission g c =
    c.admission.ensures c.args.service.now (map (λ b. (goal.Verifier-dyn g (b.vtable, b.value)).meaning b.value) c.args.verifiers.now) c.decide_by_memory-decision.ensures.decided
