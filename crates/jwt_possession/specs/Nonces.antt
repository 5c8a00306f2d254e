-- Nonces by time, of which nothing is kept (RFC 9449, sections 8 and 9).
use Rattle.std.specs.Prelude.{◌≡◌, ◌⊎◌, ◌≤◌, ◌+◌, ◌/◌, ℕ, ℤ, List, codes, length, Some}
use Rattle.std.specs.Int.{w64, to_be_bytes}
use Rattle.serde_json.specs.Data.{Members}
use Rattle.jwt_text.specs.Base64url.{spelling}
use Rattle.jwt_text.specs.Members.{text_at}
use Rattle.jwt_mac.specs.Algorithm.{tag_of}
use Rattle.jwt_mac.specs.declared.algorithm.Alg.TheVariants.{HS256}
use Rattle.jwt_possession.specs.once.Accepted.{seconds}
use Rattle.jwt_possession.specs.declared.nonces.Nonces.{Nonces}

-- what nonces are made of: the service's secret, and how many seconds a period has
pub record Making : Type 0 where
  pub secret : List ℕ
  pub period : ℕ

-- what contracts see of nonces
abbrev pub making : Nonces → Making
making nonces = record { secret = nonces.secret.now; period = nonces.period }

-- the secret has 256 bits (RFC 7518, section 3.2), and a period has some length
abbrev pub MakesNonces : Making → Type 0
MakesNonces made = (32 ≤ length made.secret) × (1 ≤ made.period)

-- the number of the period in which a moment falls: the first, from 1970-01-01T00:00:00Z on, is 0, and so it is before
abbrev pub period_of : Making → ℤ → ℕ
period_of made now = seconds now / made.period

-- the nonce of the period of this number: base64url of the HMAC-SHA-256 of the number as 8 octets, the most significant first
unfoldable pub nonce_in : Making → ℕ → List ℕ
nonce_in made number = spelling (tag_of HS256 made.secret (to_be_bytes w64 number))

-- the nonce of the period in which a moment falls
abbrev pub nonce_of : Making → ℤ → List ℕ
nonce_of made now = nonce_in made (period_of made now)

-- at this moment the nonce is that of the period, or of the one before, if there is one
abbrev pub IsFresh : Making → ℤ → List ℕ → Type 0
IsFresh made now nonce = (nonce ≡ nonce_of made now) ⊎ ((before : ℕ) × (before + 1 ≡ period_of made now) × (nonce ≡ nonce_in made before))

-- the claims have such a `nonce`
abbrev pub HasFresh : Making → ℤ → Members → Type 0
HasFresh made now claims = (nonce : List ℕ) × (text_at (codes "nonce") claims ≡ Some nonce) × IsFresh made now nonce
