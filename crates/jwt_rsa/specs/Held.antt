-- The keys that a verifier of RSA has prepared.
use Rattle.std.specs.Prelude.{ℕ, length}
use Rattle.jwt_rsa.specs.declared.verifier.PreparedRsa.{PreparedRsa}

-- how many there are
abbrev pub prepared_number : PreparedRsa → ℕ
prepared_number v = length v.moduli.items

-- how many more there may be
abbrev pub room : PreparedRsa → ℕ
room v = v.left
