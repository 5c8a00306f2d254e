-- The keys that a verifier of Ed25519 has prepared.
use Rattle.std.specs.Prelude.{ℕ}
use Rattle.jwt_ed25519.specs.Held.{held_number}
use Rattle.jwt_ed25519.specs.declared.verifier.PreparedEd25519.{PreparedEd25519}

-- how many there are
abbrev pub prepared_number : PreparedEd25519 → ℕ
prepared_number v = held_number v.keys

-- how many more there may be
abbrev pub room : PreparedEd25519 → ℕ
room v = v.left
