-- `empty` of the handle of a memory of tokens that count once: the walk of all handles, at this one's form. Assumes `Logic`.
use Rattle.jwt_handles.proofs.HandleForms.{once}
use Rattle.jwt_handles.proofs.HandleWalks.{empty_meets}
use Rattle.jwt_handles.specs.contracts.once_handle.OnceHandle.empty.Key.{name as #self}
use Rattle.jwt_handles.proofs.once_handle.OnceHandle.empty.Statement.{statement}
use Rattle.jwt_handles.proofs.once_handle.OnceHandle.empty.Code as code

pub empty_spec : {M : Type 1} → statement M
empty_spec 𝓤 𝓛 𝓜 𝓡 wired = empty_meets once 𝓤 𝓛 𝓜 𝓡 #self (code.unfolded 𝓤 𝓛.H 𝓜 𝓡 wired)
