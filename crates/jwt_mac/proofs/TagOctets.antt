-- A tag is octets.
use Rattle.std.proofs.Common.{ℕ, zero, suc, ◌<◌, List, [], ◌∷◌, ◌++◌, take, arith}
use Rattle.std.specs.Prelude.{slice_index}
use Rattle.std.specs.Int.{w32, w64, byte_at, bytes_high_first, byte_len}
use Rattle.sha2.specs.Sha256 as short
use Rattle.sha2.specs.Sha512 as long
use Rattle.jwt_mac.specs.Hmac.{hmac_of}
use Rattle.jwt_mac.specs.Algorithm.{kind_of, block_by, hmac_hash, sha256_of, sha384_of, sha512_of, tag_of}
use Rattle.jwt_mac.specs.declared.algorithm.Alg.{Alg}
use Rattle.jwt_mac.specs.declared.algorithm.Hash.TheVariants.{Sha256, Sha384, Sha512}
use Rattle.jwt_mac.specs.declared.algorithm.Kind.{Kind}
use Rattle.jwt_mac.specs.declared.algorithm.Kind.TheVariants.{Hmac}

abbrev AreBelow256 : List ℕ → Type 0
AreBelow256 xs = (i : ℕ) → slice_index xs i < 256

none_are : AreBelow256 []
none_are i = omega arith

one_more : (x : ℕ) (xs : List ℕ) → x < 256 → AreBelow256 xs → AreBelow256 (x ∷ xs)
one_more x xs small rest zero = small
one_more x xs small rest (suc i) = rest i

joined_are : (xs ys : List ℕ) → AreBelow256 xs → AreBelow256 ys → AreBelow256 (xs ++ ys)
joined_are [] ys p q = q
joined_are (x ∷ xs) ys p q = one_more x (xs ++ ys) (p 0) (joined_are xs ys (λ i. p (suc i)) q)

first_are : (n : ℕ) (xs : List ℕ) → AreBelow256 xs → AreBelow256 (take n xs)
first_are zero xs p = none_are
first_are (suc n) [] p = none_are
first_are (suc n) (x ∷ xs) p = one_more x (take n xs) (p 0) (first_are n xs (λ i. p (suc i)))

byte_is : (k n : ℕ) → byte_at k n < 256
byte_is zero n = omega arith
byte_is (suc k) n = omega arith

bytes_are : (k n : ℕ) → AreBelow256 (bytes_high_first k n)
bytes_are zero n = none_are
bytes_are (suc k) n = one_more (byte_at k n) (bytes_high_first k n) (byte_is k n) (bytes_are k n)

short_are : (h : List ℕ) (n : ℕ) → AreBelow256 (short.digest_bytes h n)
unfolding short.digest_bytes
short_are h zero = none_are
short_are h (suc n) = joined_are (short.digest_bytes h n) (bytes_high_first (byte_len w32) (slice_index h n)) (short_are h n) (bytes_are (byte_len w32) (slice_index h n))

long_are : (h : List ℕ) (n : ℕ) → AreBelow256 (long.digest_bytes h n)
unfolding long.digest_bytes
long_are h zero = none_are
long_are h (suc n) = joined_are (long.digest_bytes h n) (bytes_high_first (byte_len w64) (slice_index h n)) (long_are h n) (bytes_are (byte_len w64) (slice_index h n))

sha256_are : (m : List ℕ) → AreBelow256 (short.sha256 m)
unfolding short.sha256
sha256_are m = short_are _ 8

sha384_are : (m : List ℕ) → AreBelow256 (long.sha384 m)
unfolding long.sha384
sha384_are m = first_are 48 _ (long_are _ 8)

sha512_are : (m : List ℕ) → AreBelow256 (long.sha512 m)
unfolding long.sha512
sha512_are m = long_are _ 8

pub tag_is_octets : (alg : Alg) (key message : List ℕ) → AreBelow256 (tag_of alg key message)
unfolding tag_of hmac_of sha256_of sha384_of sha512_of
tag_is_octets alg key message = by (kind_of alg)
  where
    by : (kind : Kind) → AreBelow256 (hmac_of (hmac_hash kind) (block_by kind) key message)
    by (Hmac Sha256) = sha256_are _
    by (Hmac Sha384) = sha384_are _
    by (Hmac Sha512) = sha512_are _
    by _ = none_are
