-- The documents of a state.
use Rattle.jwt_handles.specs.declared.state.State.{State}
use Rattle.jwt_handles.specs.declared.grounds.Documents.{Documents}

-- the policy and the key set that it judges by
abbrev pub documents : State → Documents
documents state = state.grounds.0
