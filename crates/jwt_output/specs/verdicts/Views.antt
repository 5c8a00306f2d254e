-- Values of the code as this crate's contracts see them.
use Rattle.std.specs.Prelude.{option_map}
use Rattle.jwt_settings.specs.Seen.{expectation_view}
use Rattle.jwt_output.specs.verdicts.Denied.{Demands}
use Rattle.jwt_output.specs.declared.verdicts.demands.Demands.{Demands as CodeDemands}

-- what is asked of claims
abbrev pub demands_view : CodeDemands → Demands
demands_view d = record { rule = option_map (λ r. r.now) d.rule; expected = option_map expectation_view d.expected }
