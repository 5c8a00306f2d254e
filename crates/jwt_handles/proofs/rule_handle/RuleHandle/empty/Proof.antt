-- `empty` of the handle of an access rule: the walk of all handles, at this one's form. Assumes `Logic`.
use Rattle.jwt_handles.proofs.HandleForms.{rule}
use Rattle.jwt_handles.proofs.HandleWalks.{empty_meets}
use Rattle.jwt_handles.specs.contracts.rule_handle.RuleHandle.empty.Key.{name as #self}
use Rattle.jwt_handles.proofs.rule_handle.RuleHandle.empty.Statement.{statement}
use Rattle.jwt_handles.proofs.rule_handle.RuleHandle.empty.Code as code

pub empty_spec : {M : Type 1} → statement M
empty_spec 𝓤 𝓛 𝓜 𝓡 wired = empty_meets rule 𝓤 𝓛 𝓜 𝓡 #self (code.unfolded 𝓤 𝓛.H 𝓜 𝓡 wired)
