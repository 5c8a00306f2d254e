-- The payload that is kept of the last judging.
use Rattle.std.specs.Prelude.{◌≡◌, ◌≢◌, ℕ, List, Option, Some, None}
use Rattle.jwt_policy.specs.Settings.{Settings}
use Rattle.jwt_memory.specs.Payloads.{IsPayloadOf}
use Rattle.jwt_handles.specs.declared.state.State.{State}
use Rattle.jwt_handles.specs.declared.status.TheConstants.{FOW_OK}
use Rattle.jwt_handles.specs.Evidence.{payload_kept}

-- a payload is kept exactly where the verdict is an acceptance, and it is that of the token
abbrev pub KeepsPayload : Settings → List ℕ → ℕ → Option (List ℕ) → Type 0
KeepsPayload policy octets verdict None = verdict ≢ FOW_OK
KeepsPayload policy octets verdict (Some payload) = (verdict ≡ FOW_OK) × IsPayloadOf policy octets payload

-- the state that is held keeps it
abbrev pub KeepsPayloadBy : Settings → List ℕ → ℕ → Option State → Type 0
KeepsPayloadBy policy octets verdict None = ⊥
KeepsPayloadBy policy octets verdict (Some after) = KeepsPayload policy octets verdict (payload_kept after.last)
