-- The thumbprint of a key, by SHA-256 (RFC 7638, section 3; RFC 8037, section 2).
use Rattle.std.specs.Prelude.{ℕ, List, [], ◌∷◌, codes, unwrap_or}
use Rattle.std.specs.List.{flat_map}
use Rattle.serde_json.specs.Data.{Members}
use Rattle.jwt_text.specs.Members.{text_at}
use Rattle.jwt_text.specs.Base64url.{spelling}
use Rattle.jwt_mac.specs.Algorithm.{sha256_of}
use Rattle.jwt_keys.specs.declared.kind.KeyKind.{KeyKind}
use Rattle.jwt_keys.specs.declared.kind.KeyKind.TheVariants.{Oct, Rsa, Ec, Okp}

-- the text of a member, as it is spelled in the key
abbrev pub member_text : List ℕ → Members → List ℕ
member_text name ms = unwrap_or (text_at name ms) []

abbrev pub joined : List (List ℕ) → List ℕ
joined pieces = flat_map (λ piece. piece) pieces

-- ---- the object of the required members, in ascending order of their names, with no white space (RFC 7638, section
-- 3.2; for OKP RFC 8037, section 2)

abbrev pub oct_text : List ℕ → List ℕ
oct_text k = joined (codes "{\"k\":\"" ∷ k ∷ codes "\",\"kty\":\"oct\"}" ∷ [])

abbrev pub rsa_text : List ℕ → List ℕ → List ℕ
rsa_text e n = joined (codes "{\"e\":\"" ∷ e ∷ codes "\",\"kty\":\"RSA\",\"n\":\"" ∷ n ∷ codes "\"}" ∷ [])

abbrev pub ec_text : List ℕ → List ℕ → List ℕ → List ℕ
ec_text crv x y =
    joined (codes "{\"crv\":\"" ∷ crv ∷ codes "\",\"kty\":\"EC\",\"x\":\"" ∷ x ∷ codes "\",\"y\":\"" ∷ y ∷ codes "\"}" ∷ [])

abbrev pub okp_text : List ℕ → List ℕ → List ℕ
okp_text crv x = joined (codes "{\"crv\":\"" ∷ crv ∷ codes "\",\"kty\":\"OKP\",\"x\":\"" ∷ x ∷ codes "\"}" ∷ [])

unfoldable pub thumbprint_text : KeyKind → Members → List ℕ
thumbprint_text Oct ms = oct_text (member_text (codes "k") ms)
thumbprint_text Rsa ms = rsa_text (member_text (codes "e") ms) (member_text (codes "n") ms)
thumbprint_text (Ec curve) ms = ec_text (member_text (codes "crv") ms) (member_text (codes "x") ms) (member_text (codes "y") ms)
thumbprint_text (Okp curve) ms = okp_text (member_text (codes "crv") ms) (member_text (codes "x") ms)

-- the base64url text of its digest (RFC 7638, section 3)
unfoldable pub thumbprint_of : KeyKind → Members → List ℕ
thumbprint_of kind ms = spelling (sha256_of (thumbprint_text kind ms))
