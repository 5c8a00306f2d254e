use Rattle.std.proofs.Common.{Bool, map, refl, sym, subst}
use Rattle.jwt_service.specs.Recalled.{AreStillKeptWhere}
use Rattle.jwt_service.proofs.accepting.recalled_or_judged.Goals as goal

pub returns-then-shown-clause-kept : goal.returns-then-shown-clause-kept
returns-then-shown-clause-kept g c =
    let v = map (λ b. (goal.Verifier-dyn g (b.vtable, b.value)).meaning b.value) c.args.verifiers.now in
    subst (λ (b : Bool). AreStillKeptWhere b v c.args.shown.now c.args.memory.now c.recalled.new.memory) (sym c.if-shown.true) c.recalled.ensures.kept

pub returns-else-shown-clause-kept : goal.returns-else-shown-clause-kept
returns-else-shown-clause-kept g c =
    let v = map (λ b. (goal.Verifier-dyn g (b.vtable, b.value)).meaning b.value) c.args.verifiers.now in
    subst (λ (b : Bool). AreStillKeptWhere b v c.args.shown.now c.args.memory.now c.args.memory.now) (sym c.if-shown.false) refl
