use Rattle.std.proofs.Common.{sym, ◌∙◌, arith}
use Rattle.jwt_mac.proofs.First.{first-here, first-later}
use Rattle.jwt_mac.proofs.verifier.first_for.Goals as goal

pub returns-then-is_for : goal.returns-then-is_for
returns-then-is_for g c =
    sym (first-here (λ b. (goal.Verifier-dyn g (b.vtable, b.value)).meaning b.value) c.args.alg c.args.verifiers.now c.loop-verifier.verifier-index c.verifier-item.result (omega arith) c.verifier-item.is (sym c.is_for.ensures ∙ c.if-is_for.true))
    ∙ c.loop-verifier.invariant

pub loop-verifier-preserved : goal.loop-verifier-preserved
loop-verifier-preserved g c =
    sym (first-later (λ b. (goal.Verifier-dyn g (b.vtable, b.value)).meaning b.value) c.args.alg c.args.verifiers.now c.loop-verifier.verifier-index c.verifier-item.result (omega arith) c.verifier-item.is (sym c.is_for.ensures ∙ c.if-is_for.false))
    ∙ c.loop-verifier.invariant
