-- Nonces by time, and what is said of the one of the proof that was accepted last.
use Rattle.std.specs.Prelude.{◌≡◌, ◌⊎◌, ℕ, ℤ, Option, Some, None}
use Rattle.jwt_possession.specs.Nonces.{Making, MakesNonces, HasFresh}
use Rattle.jwt_possession.specs.Possessions.{proved}
use Rattle.jwt_possession.specs.declared.possession.Possession.{Possession}
use Rattle.jwt_handles.specs.declared.status.TheConstants.{FOW_OK, FOW_REFUSED, FOW_ABSENT, FOW_NOT_EXPECTED}

-- of the proof that is kept, if there is one: its nonce is that of this period or of the one before, or it isn't
abbrev pub SaysNonce : Making → ℤ → Option Possession → ℕ → Type 0
SaysNonce made now None status = status ≡ FOW_ABSENT
SaysNonce made now (Some it) status =
    ((status ≡ FOW_OK) × HasFresh made now (proved it).claims) ⊎ ((status ≡ FOW_NOT_EXPECTED) × ¬ HasFresh made now (proved it).claims)

-- the same, where there are such nonces
abbrev pub SaysFresh : Making → ℤ → Option Possession → ℕ → Type 0
SaysFresh made now kept status = (MakesNonces made → SaysNonce made now kept status) × (¬ MakesNonces made → status ≡ FOW_REFUSED)
