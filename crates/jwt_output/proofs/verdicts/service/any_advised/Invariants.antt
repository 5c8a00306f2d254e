use Rattle.std.proofs.Common.{◌≡◌, drop, map}
use Rattle.std.specs.List.{list_any}
use Rattle.jwt_advice.specs.Findings.{findings_view}
use Rattle.jwt_output.specs.verdicts.Meant.{is_advised}
use Rattle.jwt_output.proofs.verdicts.service.any_advised.Given as goal

abbrev pub invariant-loop-one : goal.invariant-loop-one
invariant-loop-one l = list_any (λ f. is_advised f.notes) (map findings_view (drop l.one-index l.found)) ≡ list_any (λ f. is_advised f.notes) (map findings_view l.found)
