-- A key as contracts see it, and what it answers to.
use Rattle.std.specs.Prelude.{ℕ, ◌&&◌, ◌||◌, Bool, true, false, List, length, Option, Some, None, codes}
use Rattle.std.specs.List.{list_any}
use Rattle.std.specs.Str.{bytes_eq}
use Rattle.jwt_mac.specs.Verifying.{KeyOctets, OctKey}

-- a readable key: its members (RFC 7517, section 4), each None where it is absent, the octets that they spell, its
-- thumbprint (RFC 7638), and the place of its entry in the list `keys`
pub record KeyParts : Type 0 where
  pub octets : KeyOctets
  pub kid : Option (List ℕ)
  pub alg : Option (List ℕ)
  pub key_use : Option (List ℕ)
  pub key_ops : Option (List (List ℕ))
  pub thumbprint : List ℕ
  pub place : ℕ

-- the octets of a secret; a public key has none
abbrev pub secret_length : KeyOctets → ℕ
secret_length (OctKey k) = length k
secret_length _ = 0

abbrev pub is_kid : List ℕ → Option (List ℕ) → Bool
is_kid name None = false
is_kid name (Some k) = bytes_eq name k

abbrev pub is_none_and : Option (List ℕ) → Bool → Bool
is_none_and None b = b
is_none_and (Some k) b = false

-- the key's `kid` is this name (RFC 7517, section 4.5)
abbrev pub has_kid : List ℕ → KeyParts → Bool
has_kid name k = is_kid name k.kid

-- the key has no `kid`, and its thumbprint is this name
abbrev pub has_thumbprint : List ℕ → KeyParts → Bool
has_thumbprint name k = is_none_and k.kid (bytes_eq name k.thumbprint)

-- the key answers to this name, where thumb also by its thumbprint
abbrev pub has_name : List ℕ → Bool → KeyParts → Bool
has_name name thumb k = has_kid name k || (thumb && has_thumbprint name k)

-- `use`, where present, is sig (RFC 7517, section 4.2)
abbrev pub is_for_signatures : Option (List ℕ) → Bool
is_for_signatures None = true
is_for_signatures (Some u) = bytes_eq u (codes "sig")

-- `key_ops`, where present, holds the operation (RFC 7517, section 4.3)
abbrev pub allows : List ℕ → Option (List (List ℕ)) → Bool
allows op None = true
allows op (Some ops) = list_any (λ o. bytes_eq o op) ops

-- the key may be used for this operation
abbrev pub permits_of : List ℕ → KeyParts → Bool
permits_of op k = is_for_signatures k.key_use && allows op k.key_ops
