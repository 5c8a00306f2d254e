-- Reading from left to right, with the first fault that is met. Der.antt is what a reader has to believe; this is the same in the order
-- of the code, and says which refusal it is.
use Rattle.std.specs.Prelude.{◌≡◌, ℕ, ◌+◌, ◌*◌, List, [], ◌∷◌, length, take, drop, Result, Ok, Err, nat_lt, ◌==◌, ◌&&◌, ◌||◌, if◌then◌else◌}
use Rattle.std.specs.List.{starts_with}
use Rattle.std.specs.Str.{bytes_eq}
use Rattle.jwt_mac.specs.Verifying.{KeyOctets, OctKey, RsaKey, EcKey, OkpKey}
use Rattle.jwt_mac.specs.declared.key_view.EcCurve.{EcCurve}
use Rattle.jwt_mac.specs.declared.key_view.EcCurve.TheVariants.{P256, P384, P521}
use Rattle.jwt_mac.specs.declared.key_view.EdCurve.{EdCurve}
use Rattle.jwt_mac.specs.declared.key_view.EdCurve.TheVariants.{Ed25519, Ed448}
use Rattle.jwt_jwk.specs.der.Der.{algorithm, begins_explicit, begins_pss, coordinate_size, is_fit, point_size}
use Rattle.jwt_jwk.specs.declared.der.refusal.Refusal.{Refusal}
use Rattle.jwt_jwk.specs.declared.der.refusal.Refusal.TheVariants.{Element, Trailing, Bits, Algorithm, RsaPss, ExplicitCurve, Number, Point, Compressed, OffCurve, KeySize}
use Rattle.jwt_jwk.specs.declared.der.kind.Kind.{Kind}
use Rattle.jwt_jwk.specs.declared.der.kind.Kind.TheVariants.{Rsa, Ec, Okp}

infixl 10 ◌>>=◌
abbrev pub ◌>>=◌ : {A B : Type 0} → Result A Refusal → (A → Result B Refusal) → Result B Refusal
(Ok x) >>= f = f x
(Err e) >>= f = Err e

-- What a function returned, seen by view, is what reading gives.
abbrev pub AgreesWith : {X Y : Type 0} → (X → Y) → Result X Refusal → Result Y Refusal → Type 0
AgreesWith view (Ok x) read = read ≡ Ok (view x)
AgreesWith view (Err e) read = read ≡ Err e

-- ---- elements

abbrev pub one_more : List ℕ → Result (ℕ × List ℕ) Refusal
one_more [] = Err Element
one_more (a ∷ rest) = if nat_lt a 128 then Err Element else Ok (a, rest)

abbrev pub two_more : List ℕ → Result (ℕ × List ℕ) Refusal
two_more [] = Err Element
two_more (a ∷ []) = Err Element
two_more (a ∷ b ∷ rest) = if a == 0 then Err Element else Ok (256 * a + b, rest)

-- a length in its shortest form, and what follows
unfoldable pub length_at : List ℕ → Result (ℕ × List ℕ) Refusal
length_at [] = Err Element
length_at (first ∷ rest) =
    if nat_lt first 128 then Ok (first, rest)
    else if first == 129 then one_more rest
    else if first == 130 then two_more rest
    else Err Element

abbrev pub split_of : ℕ → List ℕ → Result (List ℕ × List ℕ) Refusal
split_of n octets = if nat_lt (length octets) n then Err Element else Ok (take n octets, drop n octets)

-- the contents of an element with this tag, and what follows
unfoldable pub element_at : ℕ → List ℕ → Result (List ℕ × List ℕ) Refusal
element_at tag [] = Err Element
element_at tag (first ∷ rest) =
    if first == tag then (length_at rest >>= λ n. split_of n.0 n.1) else Err Element

-- the contents of an element with this tag that nothing follows
unfoldable pub only_element : ℕ → List ℕ → Result (List ℕ) Refusal
only_element tag octets = do
  x ← element_at tag octets
  if length x.1 == 0 then Ok x.0 else Err Trailing

-- the octets of a bit string without unused bits
unfoldable pub bits_of : List ℕ → Result (List ℕ) Refusal
bits_of [] = Err Bits
bits_of (unused ∷ octets) = if unused == 0 then Ok octets else Err Bits

-- the algorithm, and the octets of the key
unfoldable pub algorithm_and_key : List ℕ → Result (List ℕ × List ℕ) Refusal
algorithm_and_key octets = do
  info ← only_element 48 octets
  a ← element_at 48 info
  b ← only_element 3 a.1
  key ← bits_of b
  Ok (a.0, key)

-- ---- RSA

abbrev pub within_size : List ℕ → Result (List ℕ) Refusal
within_size octets = if nat_lt 4096 (length octets) then Err Number else Ok octets

abbrev pub behind_zero : List ℕ → Result (List ℕ) Refusal
behind_zero [] = Err Number
behind_zero (first ∷ rest) = if nat_lt first 128 then Err Number else within_size (first ∷ rest)

-- the octets of a number above 0, of its two's complement in the shortest form
unfoldable pub der_number : List ℕ → Result (List ℕ) Refusal
der_number [] = Err Number
der_number (first ∷ rest) =
    if first == 0 then behind_zero rest
    else if nat_lt first 128 then within_size (first ∷ rest)
    else Err Number

-- modulus and exponent
unfoldable pub rsa_of : List ℕ → Result (List ℕ × List ℕ) Refusal
rsa_of octets = do
  both ← only_element 48 octets
  n ← element_at 2 both
  e ← only_element 2 n.1
  modulus ← der_number n.0
  exponent ← der_number e
  Ok (modulus, exponent)

-- ---- the other kinds

-- compressed, or of another form or size
abbrev pub point_fault : ℕ → Refusal
point_fault first = if first == 2 || first == 3 then Compressed else Point

-- the coordinates of an uncompressed point
unfoldable pub ec_of : EcCurve → List ℕ → Result (List ℕ × List ℕ) Refusal
ec_of curve [] = Err Point
ec_of curve (first ∷ rest) =
    if first == 4 && length rest == 2 * coordinate_size curve
    then Ok (take (coordinate_size curve) rest, drop (coordinate_size curve) rest)
    else Err (point_fault first)

unfoldable pub okp_of : EdCurve → List ℕ → Result (List ℕ) Refusal
okp_of curve octets = if length octets == point_size curve then Ok octets else Err Point

-- ---- all of it

-- why an algorithm is none that a key may have
abbrev pub algorithm_fault : List ℕ → Refusal
algorithm_fault octets =
    if starts_with (λ a b. a == b) octets begins_pss then RsaPss
    else if starts_with (λ a b. a == b) octets begins_explicit then ExplicitCurve
    else Algorithm

-- the kind of this algorithm
unfoldable pub kind_of : List ℕ → Result Kind Refusal
kind_of octets =
    if bytes_eq octets (algorithm (RsaKey [] [])) then Ok Rsa
    else if bytes_eq octets (algorithm (EcKey P256 [] [])) then Ok (Ec P256)
    else if bytes_eq octets (algorithm (EcKey P384 [] [])) then Ok (Ec P384)
    else if bytes_eq octets (algorithm (EcKey P521 [] [])) then Ok (Ec P521)
    else if bytes_eq octets (algorithm (OkpKey Ed25519 [])) then Ok (Okp Ed25519)
    else if bytes_eq octets (algorithm (OkpKey Ed448 [])) then Ok (Okp Ed448)
    else Err (algorithm_fault octets)

-- the key of this kind
unfoldable pub read_key : Kind → List ℕ → Result KeyOctets Refusal
read_key Rsa octets = rsa_of octets >>= λ p. Ok (RsaKey p.0 p.1)
read_key (Ec curve) octets = ec_of curve octets >>= λ p. Ok (EcKey curve p.0 p.1)
read_key (Okp curve) octets = okp_of curve octets >>= λ x. Ok (OkpKey curve x)

-- the key of which octets are the encoding, or the first fault
unfoldable pub decoded_key : List ℕ → Result KeyOctets Refusal
decoded_key octets = do
  parts ← algorithm_and_key octets
  kind ← kind_of parts.0
  read_key kind parts.1

-- why such a key verifies nothing
abbrev pub why_unfit : KeyOctets → Refusal
why_unfit (RsaKey n e) = KeySize
why_unfit (EcKey curve x y) = OffCurve
why_unfit (OkpKey curve x) = OffCurve
why_unfit (OctKey k) = KeySize

-- the key, if it may verify something
unfoldable pub fitting : KeyOctets → Result KeyOctets Refusal
fitting key = if is_fit key then Ok key else Err (why_unfit key)

-- the public key of which octets are the encoding, or the first fault
unfoldable pub read : List ℕ → Result KeyOctets Refusal
read octets = decoded_key octets >>= fitting

-- the RSA key of which octets are the RSAPublicKey, or the first fault
unfoldable pub read_rsa : List ℕ → Result KeyOctets Refusal
read_rsa octets = rsa_of octets >>= λ p. fitting (RsaKey p.0 p.1)
