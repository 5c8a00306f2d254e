-- `empty` of the handle of a policy for proofs of possession: the walk of all handles, at this one's form. Assumes `Logic`.
use Rattle.jwt_handles.proofs.HandleForms.{possession}
use Rattle.jwt_handles.proofs.HandleWalks.{empty_meets}
use Rattle.jwt_handles.specs.contracts.possession_handle.PossessionHandle.empty.Key.{name as #self}
use Rattle.jwt_handles.proofs.possession_handle.PossessionHandle.empty.Statement.{statement}
use Rattle.jwt_handles.proofs.possession_handle.PossessionHandle.empty.Code as code

pub empty_spec : {M : Type 1} → statement M
empty_spec 𝓤 𝓛 𝓜 𝓡 wired = empty_meets possession 𝓤 𝓛 𝓜 𝓡 #self (code.unfolded 𝓤 𝓛.H 𝓜 𝓡 wired)
