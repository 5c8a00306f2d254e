-- Secrets that can be guessed (RFC 8725, section 3.5).
use Rattle.std.specs.Prelude.{ℕ, Bool, false, ◌&&◌, ◌==◌, nat_le, nat_lt, length, slice_index}
use Rattle.std.specs.List.{list_all}
use Rattle.jwt_mac.specs.Verifying.{KeyOctets, OctKey}

-- a secret whose octets are all alike
abbrev pub is_uniform : KeyOctets → Bool
is_uniform (OctKey octets) = nat_lt 0 (length octets) && list_all (λ octet. octet == slice_index octets 0) octets
is_uniform _ = false

-- a secret of fewer octets than any HMAC algorithm takes: HS256 takes 32 (RFC 7518, section 3.2)
abbrev pub is_short : KeyOctets → Bool
is_short (OctKey octets) = nat_lt (length octets) 32
is_short _ = false

-- an octet that is a printable ASCII character, a space among them
abbrev pub is_printable_octet : ℕ → Bool
is_printable_octet octet = nat_le 32 octet && nat_lt octet 127

-- a secret of these alone, as a password has
abbrev pub is_printable : KeyOctets → Bool
is_printable (OctKey octets) = list_all is_printable_octet octets
is_printable _ = false
