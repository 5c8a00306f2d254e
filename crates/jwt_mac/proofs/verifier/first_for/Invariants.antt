use Rattle.std.proofs.Common.{◌≡◌, map, drop}
use Rattle.jwt_mac.specs.Verifying.{first_naming}
use Rattle.jwt_mac.proofs.verifier.first_for.Given as goal

-- those left have the same first one
abbrev pub invariant-loop-verifier : goal.invariant-loop-verifier
invariant-loop-verifier g l =
    first_naming (map (λ b. (goal.Verifier-dyn g (b.vtable, b.value)).meaning b.value) (drop l.verifier-index l.verifiers)) l.alg
    ≡ first_naming (map (λ b. (goal.Verifier-dyn g (b.vtable, b.value)).meaning b.value) l.verifiers) l.alg
