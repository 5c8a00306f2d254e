use Rattle.std.proofs.Common.{◌≡◌, ◌++◌, map, drop}
use Rattle.jwt_advice.specs.Findings.{findings_view}
use Rattle.jwt_document.specs.Meanings.{meaning}
use Rattle.jwt_command.specs.Services.{found_from}
use Rattle.jwt_command.proofs.service.found_in.Given as goal

-- what was found, with what is of the rest, is all
abbrev pub invariant-loop-number : goal.invariant-loop-number
invariant-loop-number g l =
    map findings_view l.found.items ++ found_from (map (λ b. (goal.Verifier-dyn g (b.vtable, b.value)).meaning b.value) l.verifiers) l.document l.number (drop l.number l.issuers)
    ≡ found_from (map (λ b. (goal.Verifier-dyn g (b.vtable, b.value)).meaning b.value) l.verifiers) l.document 0 (meaning l.document).issuers
