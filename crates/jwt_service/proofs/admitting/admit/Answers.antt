use Rattle.std.proofs.Common.{map}
use Rattle.jwt_service.proofs.admitting.admit.Goals as goal

pub returns : goal.returns
returns g c = c.admission.ensures c.args.service.now (map (λ b. (goal.Verifier-dyn g (b.vtable, b.value)).meaning b.value) c.args.verifiers.now) c.decide-decision.ensures
