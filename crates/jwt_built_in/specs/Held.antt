-- The keys that the built-in verifier has prepared.
use Rattle.std.specs.Prelude.{ℕ, ◌+◌}
use Rattle.std.specs.Option.{option_map_or}
use Rattle.std.specs.Arc.{arc_value}
use Rattle.ecdsa.specs.jws.Held as ecdsa
use Rattle.jwt_ed25519.specs.Room as ed25519
use Rattle.jwt_rsa.specs.Held as rsa
use Rattle.jwt_built_in.specs.declared.prepared.Prepared.{Prepared}
use Rattle.jwt_built_in.specs.declared.built_in.BuiltIn.{BuiltIn}

-- how many keys on elliptic curves there are
abbrev pub curve_keys_in : Prepared → ℕ
curve_keys_in p = ecdsa.prepared_number p.ecdsa + ed25519.prepared_number p.ed25519

-- how many RSA keys there are
abbrev pub rsa_keys_in : Prepared → ℕ
rsa_keys_in p = rsa.prepared_number p.rsa

-- the same of a verifier, which may have none prepared
abbrev pub curve_keys : BuiltIn → ℕ
curve_keys v = option_map_or (λ p. curve_keys_in (arc_value p)) v.prepared 0

abbrev pub rsa_keys : BuiltIn → ℕ
rsa_keys v = option_map_or (λ p. rsa_keys_in (arc_value p)) v.prepared 0
