-- The keys that are prepared.
use Rattle.std.specs.Prelude.{ℕ, length}
use Rattle.jwt_ed25519.specs.declared.held.PreparedKeys.{PreparedKeys}

-- how many there are
abbrev pub held_number : PreparedKeys → ℕ
held_number keys = length keys.keys.items
