-- What a call expects of claims.
use Rattle.std.specs.Prelude.{ℕ, ◌/◌, List, length, take}
use Rattle.std.specs.List.{Contains}
use Rattle.serde_json.specs.Data.{string, Members}
use Rattle.jwt_mac.specs.Algorithm.{kind_of, hash_by, hashed}
use Rattle.jwt_mac.specs.declared.algorithm.Alg.{Alg}
use Rattle.jwt_text.specs.Base64url.{spelling}
use Rattle.jwt_access.specs.Granted.{IsClaim}
use Rattle.jwt_access.specs.declared.expected.expected.Wanted.{Wanted}
use Rattle.jwt_access.specs.declared.expected.expected.Wanted.TheVariants.{Text, HalfHash}
use Rattle.jwt_access.specs.declared.expected.expected.Expected.{Expected}

-- the left-most half
abbrev pub left_half : List ℕ → List ℕ
left_half octets = take (length octets / 2) octets

-- base64url of the left-most half of the octets' hash, by the hash function of the signature's algorithm (OpenID Connect Core 1.0, sections 3.1.3.6 and 3.3.2.11)
abbrev pub half_hash : Alg → List ℕ → List ℕ
half_hash alg octets = spelling (left_half (hashed (hash_by (kind_of alg)) octets))

-- the text that the claim has to be
abbrev pub expected_text : Alg → Wanted → List ℕ
expected_text alg (Text text) = text.now
expected_text alg (HalfHash octets) = half_hash alg octets.now

-- the claim is there, and is that very text
abbrev pub IsMet : Alg → Members → Expected → Type 0
IsMet alg members expected = IsClaim expected.claim.now members (string (expected_text alg expected.wanted))

-- each expectation is met
abbrev pub AreMet : Alg → Members → List Expected → Type 0
AreMet alg members list = (expected : Expected) → Contains list expected → IsMet alg members expected
