-- `of_raw_box` of the handle of an access rule: the walk of all handles, at this one's form. Assumes `Logic`.
use Rattle.jwt_handles.proofs.HandleForms.{rule}
use Rattle.jwt_handles.proofs.HandleWalks.{of_raw_box_meets}
use Rattle.jwt_handles.specs.contracts.rule_handle.RuleHandle.of_raw_box.Key.{name as #self}
use Rattle.jwt_handles.proofs.rule_handle.RuleHandle.of_raw_box.Statement.{statement}
use Rattle.jwt_handles.proofs.rule_handle.RuleHandle.of_raw_box.Code as code

pub of_raw_box_spec : {M : Type 1} → statement M
of_raw_box_spec 𝓤 𝓛 𝓜 𝓡 wired = of_raw_box_meets rule 𝓤 𝓛 𝓜 𝓡 #self (code.unfolded 𝓤 𝓛.H 𝓜 𝓡 wired)
