-- The octets of a key as contracts see them.
use Rattle.std.specs.Prelude.{ℕ, Vec}
use Rattle.std.specs.Global.{Global}
use Rattle.jwt_mac.specs.Verifying.{KeyOctets, owned_octets}
use Rattle.jwt_mac.specs.declared.owned_key.OwnedKey.{OwnedKey}

abbrev pub material_octets : OwnedKey (Vec ℕ Global) → KeyOctets
material_octets = owned_octets (λ v. v.items)
