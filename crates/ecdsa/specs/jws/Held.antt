-- The keys that a verifier of ECDSA has prepared.
use Rattle.std.specs.Prelude.{ℕ, ◌+◌, length}
use Rattle.ecdsa.specs.Held.{held}
use Rattle.ecdsa.specs.declared.jws.prepared.PreparedEcdsa.{PreparedEcdsa}

-- how many there are, of all curves
abbrev pub prepared_number : PreparedEcdsa → ℕ
prepared_number v = length (held v.p256) + length (held v.p384) + length (held v.p521)

-- how many more there may be
abbrev pub room : PreparedEcdsa → ℕ
room v = v.left
