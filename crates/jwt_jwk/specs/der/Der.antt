-- The one encoding in DER of a public key: SubjectPublicKeyInfo (RFC 5280, section 4.1) and RSAPublicKey (RFC 8017, appendix A.1.1),
-- by the rules of ITU-T X.690, which the numbers in parentheses name.
use Rattle.std.specs.Prelude.{◌≡◌, ◌≢◌, Bool, true, false, ℕ, ◌+◌, ◌*◌, ◌/◌, ◌%◌, ◌<◌, ◌≤◌, List, [], ◌∷◌, ◌++◌, length, slice_index, nat_lt, if◌then◌else◌}
use Rattle.std.specs.List.{flat_map}
use Rattle.ecdsa.specs.Curves as curves
use Rattle.ecdsa.specs.Ecdsa.{is_public_key}
use Rattle.jwt_rsa.specs.PublicKey.{is_key}
use Rattle.jwt_ed25519.specs.Verifying.{is_key as is_key_of_ed25519}
use Rattle.jwt_rsa.specs.powers.Octets.{os2ip}
use Rattle.jwt_mac.specs.Verifying.{KeyOctets, OctKey, RsaKey, EcKey, OkpKey}
use Rattle.jwt_mac.specs.declared.key_view.EcCurve.{EcCurve}
use Rattle.jwt_mac.specs.declared.key_view.EcCurve.TheVariants.{P256, P384, P521}
use Rattle.jwt_mac.specs.declared.key_view.EdCurve.{EdCurve}
use Rattle.jwt_mac.specs.declared.key_view.EdCurve.TheVariants.{Ed25519, Ed448}

-- a length below 65,536 in its shortest form (8.1.3.4, 8.1.3.5, 10.1)
unfoldable pub length_octets : ℕ → List ℕ
length_octets n =
    if nat_lt n 128 then n ∷ []
    else if nat_lt n 256 then 129 ∷ n ∷ []
    else 130 ∷ (n / 256) ∷ (n % 256) ∷ []

-- identifier, length, contents (8.1.1)
abbrev pub der_element : ℕ → List ℕ → List ℕ
der_element tag contents = tag ∷ (length_octets (length contents) ++ contents)

-- a number above 0, by its octets, the most significant first and not 0: two's complement, so behind a zero octet where the first
-- has its highest bit set (8.3)
abbrev pub twos_complement : List ℕ → List ℕ
twos_complement octets = if nat_lt (slice_index octets 0) 128 then octets else 0 ∷ octets

abbrev pub integer : List ℕ → List ℕ
integer octets = der_element 2 (twos_complement octets)

-- whole octets, so no unused bits (8.6)
abbrev pub bit_string : List ℕ → List ℕ
bit_string octets = der_element 3 (0 ∷ octets)

-- (8.8)
abbrev pub null : List ℕ
null = 5 ∷ 0 ∷ []

-- a subidentifier below 2,097,152: seven bits an octet, bit 8 set in all but the last (8.19.2)
abbrev pub subidentifier : ℕ → List ℕ
subidentifier n =
    if nat_lt n 128 then n ∷ []
    else if nat_lt n 16384 then (128 + n / 128) ∷ (n % 128) ∷ []
    else (128 + n / 16384) ∷ (128 + n / 128 % 128) ∷ (n % 128) ∷ []

-- the object identifier a.b and so on (8.19.4)
abbrev pub identifier : ℕ → ℕ → List ℕ → List ℕ
identifier a b arcs = der_element 6 (flat_map subidentifier ((40 * a + b) ∷ arcs))

-- (8.9)
abbrev pub sequence : List ℕ → List ℕ
sequence elements = der_element 48 elements

-- the named curves (RFC 5480, section 2.1.1.1), and the algorithms that name theirs (RFC 8410, section 3)
abbrev pub curve_identifier : EcCurve → List ℕ
curve_identifier P256 = identifier 1 2 (840 ∷ 10045 ∷ 3 ∷ 1 ∷ 7 ∷ [])
curve_identifier P384 = identifier 1 3 (132 ∷ 0 ∷ 34 ∷ [])
curve_identifier P521 = identifier 1 3 (132 ∷ 0 ∷ 35 ∷ [])

abbrev pub ed_curve_identifier : EdCurve → List ℕ
ed_curve_identifier Ed25519 = identifier 1 3 (101 ∷ 112 ∷ [])
ed_curve_identifier Ed448 = identifier 1 3 (101 ∷ 113 ∷ [])

-- AlgorithmIdentifier without its frame: rsaEncryption with NULL (RFC 3279, section 2.3.1), id-ecPublicKey with the named curve
-- (RFC 5480, section 2.1.1), the curve alone (RFC 8410, section 3)
abbrev pub algorithm : KeyOctets → List ℕ
algorithm (OctKey k) = []
algorithm (RsaKey n e) = identifier 1 2 (840 ∷ 113549 ∷ 1 ∷ 1 ∷ 1 ∷ []) ++ null
algorithm (EcKey curve x y) = identifier 1 2 (840 ∷ 10045 ∷ 2 ∷ 1 ∷ []) ++ curve_identifier curve
algorithm (OkpKey curve x) = ed_curve_identifier curve

-- how the algorithm of an RSA key for PSS alone begins (RFC 4055, section 1.2), and one whose curve is written out (RFC 3279,
-- section 2.3.5)
abbrev pub begins_pss : List ℕ
begins_pss = identifier 1 2 (840 ∷ 113549 ∷ 1 ∷ 1 ∷ 10 ∷ [])

abbrev pub begins_explicit : List ℕ
begins_explicit = identifier 1 2 (840 ∷ 10045 ∷ 2 ∷ 1 ∷ []) ++ 48 ∷ []

-- RSAPublicKey (RFC 8017, appendix A.1.1)
abbrev pub rsa_public_key : List ℕ → List ℕ → List ℕ
rsa_public_key n e = sequence (integer n ++ integer e)

-- the octets are the RSAPublicKey of the key
abbrev pub IsRsaText : KeyOctets → List ℕ → Type 0
IsRsaText (RsaKey n e) octets = octets ≡ rsa_public_key n e
IsRsaText (OctKey k) octets = ⊥
IsRsaText (EcKey curve x y) octets = ⊥
IsRsaText (OkpKey curve x) octets = ⊥

-- the octets of the key itself: RSAPublicKey (RFC 3279, section 2.3.1), the uncompressed point (RFC 5480, section 2.2), the key
-- (RFC 8410, section 4)
abbrev pub subject_key : KeyOctets → List ℕ
subject_key (OctKey k) = []
subject_key (RsaKey n e) = rsa_public_key n e
subject_key (EcKey curve x y) = 4 ∷ (x ++ y)
subject_key (OkpKey curve x) = x

-- SubjectPublicKeyInfo (RFC 5280, section 4.1)
abbrev pub spki : KeyOctets → List ℕ
spki k = sequence (sequence (algorithm k) ++ bit_string (subject_key k))

-- ---- which keys have one here

-- the octets of a coordinate (RFC 7518, section 6.2.1.2)
abbrev pub coordinate_size : EcCurve → ℕ
coordinate_size P256 = 32
coordinate_size P384 = 48
coordinate_size P521 = 66

-- the octets of a public key (RFC 8032, sections 5.1.5 and 5.2.5)
abbrev pub point_size : EdCurve → ℕ
point_size Ed25519 = 32
point_size Ed448 = 57

-- the octets of a number above 0 without leading zeros, 4,096 at most
pub record IsNumber (octets : List ℕ) : Type 0 where
  pub first : slice_index octets 0 ≢ 0
  pub most : length octets ≤ 4096

-- the numbers are octets
abbrev pub AreOctets : List ℕ → Type 0
AreOctets xs = (i : ℕ) → slice_index xs i < 256

-- a public key whose parts have the sizes of its kind
abbrev pub HasParts : KeyOctets → Type 0
HasParts (OctKey k) = ⊥
HasParts (RsaKey n e) = IsNumber n × IsNumber e
HasParts (EcKey curve x y) = (length x ≡ coordinate_size curve) × (length y ≡ coordinate_size curve)
HasParts (OkpKey curve x) = length x ≡ point_size curve

-- the point is on its curve (SEC 1, section 3.2.2.1)
abbrev pub is_on_curve : EcCurve → List ℕ → List ℕ → Bool
is_on_curve P256 x y = is_public_key curves.P256 32 x y
is_on_curve P384 x y = is_public_key curves.P384 48 x y
is_on_curve P521 x y = is_public_key curves.P521 66 x y

-- Such a key may verify something: an RSA key of the sizes of RFC 7518, section 3.3, as `jwt_rsa` has them; a point of its curve; and of Ed25519
-- one that isn't of small order (`jwt_ed25519`). Of Ed448 there is no verifier here, and nothing more is asked: another one may take the key.
abbrev pub is_fit : KeyOctets → Bool
is_fit (OctKey k) = false
is_fit (RsaKey n e) = is_key (os2ip n) (os2ip e)
is_fit (EcKey curve x y) = is_on_curve curve x y
is_fit (OkpKey Ed25519 x) = is_key_of_ed25519 x
is_fit (OkpKey Ed448 x) = true

-- a public key that may be read here
pub record IsPublicKey (key : KeyOctets) : Type 0 where
  pub parts : HasParts key
  pub fit : is_fit key ≡ true
