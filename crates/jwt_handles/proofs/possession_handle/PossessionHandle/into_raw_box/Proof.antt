-- `into_raw_box` of the handle of a policy for proofs of possession: the walk of all handles, at this one's form. Assumes `Logic`.
use Rattle.jwt_handles.proofs.HandleForms.{possession}
use Rattle.jwt_handles.proofs.HandleWalks.{into_raw_box_meets}
use Rattle.jwt_handles.specs.contracts.possession_handle.PossessionHandle.into_raw_box.Key.{name as #self}
use Rattle.jwt_handles.proofs.possession_handle.PossessionHandle.into_raw_box.Statement.{statement}
use Rattle.jwt_handles.proofs.possession_handle.PossessionHandle.into_raw_box.Code as code

pub into_raw_box_spec : {M : Type 1} → statement M
into_raw_box_spec 𝓤 𝓛 𝓜 𝓡 wired = into_raw_box_meets possession 𝓤 𝓛 𝓜 𝓡 #self (code.unfolded 𝓤 𝓛.H 𝓜 𝓡 wired)
