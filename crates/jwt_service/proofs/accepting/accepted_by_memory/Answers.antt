use Rattle.std.proofs.Common.{map}
use Rattle.jwt_service.proofs.Remembered.{is_of_own, still_of_own, told_found}
use Rattle.jwt_service.proofs.accepting.accepted_by_memory.Goals as goal

pub returns-in-Err-clause-accepted : goal.returns-in-Err-clause-accepted
returns-in-Err-clause-accepted g c = c.in-Err.ensures (map (λ b. (goal.Verifier-dyn g (b.vtable, b.value)).meaning b.value) c.args.verifiers.now)

pub recalled_or_judged-verdict-requires-clause-read : goal.recalled_or_judged-verdict-requires-clause-read
recalled_or_judged-verdict-requires-clause-read g c =
    let v = map (λ b. (goal.Verifier-dyn g (b.vtable, b.value)).meaning b.value) c.args.verifiers.now in
    (c.in-Ok.ensures v).2

pub recalled_or_judged-verdict-requires-clause-kept : goal.recalled_or_judged-verdict-requires-clause-kept
recalled_or_judged-verdict-requires-clause-kept g c =
    let v = map (λ b. (goal.Verifier-dyn g (b.vtable, b.value)).meaning b.value) c.args.verifiers.now in
    λ own. is_of_own c.args.service.now v c.in-Ok.shown.issuer c.args.memory.now ((c.in-Ok.ensures v).3 own) c.requires.kept

pub returns-clause-accepted : goal.returns-clause-accepted
returns-clause-accepted g c =
    let v = map (λ b. (goal.Verifier-dyn g (b.vtable, b.value)).meaning b.value) c.args.verifiers.now in
    c.accepted_as.ensures c.args.service.now v c.args.call.now (c.in-Ok.ensures v) c.recalled_or_judged-verdict.ensures.judged

pub returns-clause-recalled : goal.returns-clause-recalled
returns-clause-recalled g c =
    let v = map (λ b. (goal.Verifier-dyn g (b.vtable, b.value)).meaning b.value) c.args.verifiers.now in
    told_found c.recalled_or_judged-verdict.result.remembered c.args.service.now c.args.call.now c.in-Ok.shown c.args.memory.now (c.in-Ok.ensures v) c.recalled_or_judged-verdict.ensures.own
    c.recalled_or_judged-verdict.ensures.found

pub returns-clause-kept : goal.returns-clause-kept
returns-clause-kept g c =
    let v = map (λ b. (goal.Verifier-dyn g (b.vtable, b.value)).meaning b.value) c.args.verifiers.now in
    still_of_own c.in-Ok.shown.own c.args.service.now v c.in-Ok.shown c.args.memory.now c.recalled_or_judged-verdict.new.memory (c.in-Ok.ensures v).3 c.requires.kept
    c.recalled_or_judged-verdict.ensures.kept
