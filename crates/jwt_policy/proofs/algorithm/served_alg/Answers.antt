use Rattle.std.proofs.Common.{sym, ◌∙◌, map}
use Rattle.jwt_jws.specs.Views.{parts}
use Rattle.jwt_policy.proofs.ServedLemmas.{not_allowed, not_verified}
use Rattle.jwt_policy.proofs.algorithm.served_alg.Goals as goal

pub returns-then-not-is_allowed : goal.returns-then-not-is_allowed
returns-then-not-is_allowed g c =
    not_allowed c.args.policy.now (parts c.args.signature.now) (map (λ b. (goal.Verifier-dyn g (b.vtable, b.value)).meaning b.value) c.args.verifiers.now) c.in-Some.text.now c.in-Some-from_text.named
    (sym (rw c.in-Some.is at c.alg_text.ensures)) (sym c.eq.ensures ∙ c.if-eq.false) (sym c.from_text.ensures.is ∙ c.in-Some-from_text.is)
    (rw c.algs.ensures.value at (sym c.is_allowed.ensures ∙ c.if-not-is_allowed.true))

pub returns-then-not-can_verify : goal.returns-then-not-can_verify
returns-then-not-can_verify g c =
    not_verified c.args.policy.now (parts c.args.signature.now) (map (λ b. (goal.Verifier-dyn g (b.vtable, b.value)).meaning b.value) c.args.verifiers.now) c.in-Some.text.now c.in-Some-from_text.named
    (sym (rw c.in-Some.is at c.alg_text.ensures)) (sym c.eq.ensures ∙ c.if-eq.false) (sym c.from_text.ensures.is ∙ c.in-Some-from_text.is)
    (rw c.algs.ensures.value at (sym c.is_allowed.ensures ∙ c.if-not-is_allowed.false)) (sym c.can_verify.ensures ∙ c.if-not-can_verify.true)
