-- Key types, their curves, members and sizes (RFC 7518, section 6; RFC 8037, section 2).
use Rattle.std.specs.Prelude.{ℕ, ◌&&◌, ◌==◌, Bool, List, [], ◌∷◌, Option, Some, None, option_and_then, option_map, codes, if◌then◌else◌, nat_le}
use Rattle.std.specs.Str.{bytes_eq}
use Rattle.serde_json.specs.Data.{Members}
use Rattle.jwt_text.specs.Members.{text_at}
use Rattle.jwt_mac.specs.declared.key_view.EcCurve.{EcCurve}
use Rattle.jwt_mac.specs.declared.key_view.EcCurve.TheVariants.{P256, P384, P521}
use Rattle.jwt_mac.specs.declared.key_view.EdCurve.{EdCurve}
use Rattle.jwt_mac.specs.declared.key_view.EdCurve.TheVariants.{Ed25519, Ed448}
use Rattle.jwt_keys.specs.declared.kind.KeyType.{KeyType}
use Rattle.jwt_keys.specs.declared.kind.KeyType.TheVariants.{Oct, Rsa, Ec, Okp}
use Rattle.jwt_keys.specs.declared.kind.KeyKind.{KeyKind}
use Rattle.jwt_keys.specs.declared.kind.KeyKind.TheVariants.{Oct as OctKind, Rsa as RsaKind, Ec as EcKind, Okp as OkpKind}

-- the key types, compared by case (RFC 7518, section 6.1; RFC 8037, section 2)
abbrev pub key_type_named : List ℕ → Option KeyType
key_type_named t =
    if bytes_eq t (codes "oct") then Some Oct
    else if bytes_eq t (codes "RSA") then Some Rsa
    else if bytes_eq t (codes "EC") then Some Ec
    else if bytes_eq t (codes "OKP") then Some Okp
    else None

-- the key type that `kty` names
abbrev pub key_type_at : Members → Option KeyType
key_type_at ms = option_and_then key_type_named (text_at (codes "kty") ms)

-- the curves of `EC` (RFC 7518, section 6.2.1.1)
abbrev pub curve_named : List ℕ → Option EcCurve
curve_named t =
    if bytes_eq t (codes "P-256") then Some P256
    else if bytes_eq t (codes "P-384") then Some P384
    else if bytes_eq t (codes "P-521") then Some P521
    else None

-- the curves of `OKP` that sign (RFC 8037, section 3.1)
abbrev pub ed_curve_named : List ℕ → Option EdCurve
ed_curve_named t =
    if bytes_eq t (codes "Ed25519") then Some Ed25519
    else if bytes_eq t (codes "Ed448") then Some Ed448
    else None

-- a key type with the curve that `crv` names, where it has one
abbrev pub kind_named : KeyType → Members → Option KeyKind
kind_named Oct ms = Some OctKind
kind_named Rsa ms = Some RsaKind
kind_named Ec ms = option_map EcKind (option_and_then curve_named (text_at (codes "crv") ms))
kind_named Okp ms = option_map OkpKind (option_and_then ed_curve_named (text_at (codes "crv") ms))

-- the kind that `kty` and `crv` name
abbrev pub kind_at : Members → Option KeyKind
kind_at ms = option_and_then (λ key_type. kind_named key_type ms) (key_type_at ms)

-- the required members (RFC 7518, sections 6.2.1, 6.3.1 and 6.4; RFC 8037, section 2)
abbrev pub required : KeyType → List (List ℕ)
required Oct = codes "k" ∷ []
required Rsa = codes "n" ∷ codes "e" ∷ []
required Ec = codes "crv" ∷ codes "x" ∷ codes "y" ∷ []
required Okp = codes "crv" ∷ codes "x" ∷ []

-- those of them that are base64url
abbrev pub encoded : KeyKind → List (List ℕ)
encoded OctKind = codes "k" ∷ []
encoded RsaKind = codes "n" ∷ codes "e" ∷ []
encoded (EcKind curve) = codes "x" ∷ codes "y" ∷ []
encoded (OkpKind curve) = codes "x" ∷ []

-- the octets of a coordinate (RFC 7518, section 6.2.1.2)
abbrev pub coordinate_size : EcCurve → ℕ
coordinate_size P256 = 32
coordinate_size P384 = 48
coordinate_size P521 = 66

-- the octets of a public key (RFC 8032, sections 5.1.5 and 5.2.5)
abbrev pub point_size : EdCurve → ℕ
point_size Ed25519 = 32
point_size Ed448 = 57

-- the numbers of octets that such a member may have: 1 to 4,096 here, or what the curve says
abbrev pub allows_size : KeyKind → ℕ → Bool
allows_size OctKind n = nat_le 1 n && nat_le n 4096
allows_size RsaKind n = nat_le 1 n && nat_le n 4096
allows_size (EcKind curve) n = n == coordinate_size curve
allows_size (OkpKind curve) n = n == point_size curve
