-- How long a tag is.
use Rattle.std.proofs.Common.{◌≡◌, ℕ, List, length, refl}
use Rattle.sha2.proofs.Facts256.{length-sha256}
use Rattle.sha2.proofs.Facts512.{length-sha384, length-sha512}
use Rattle.jwt_mac.specs.Hmac.{hmac_of}
use Rattle.jwt_mac.specs.Algorithm.{kind_of, block_by, digest_by, digest_size, hmac_hash, sha256_of, sha384_of, sha512_of, tag_of}
use Rattle.jwt_mac.specs.declared.algorithm.Alg.{Alg}
use Rattle.jwt_mac.specs.declared.algorithm.Hash.TheVariants.{Sha256, Sha384, Sha512}
use Rattle.jwt_mac.specs.declared.algorithm.Kind.{Kind}
use Rattle.jwt_mac.specs.declared.algorithm.Kind.TheVariants.{Hmac}

pub length-tag_of : (alg : Alg) (key message : List ℕ) → length (tag_of alg key message) ≡ digest_size alg
unfolding tag_of hmac_of sha256_of sha384_of sha512_of
length-tag_of alg key message = by (kind_of alg)
  where
    by : (kind : Kind) → length (hmac_of (hmac_hash kind) (block_by kind) key message) ≡ digest_by kind
    by (Hmac Sha256) = length-sha256 _
    by (Hmac Sha384) = length-sha384 _
    by (Hmac Sha512) = length-sha512 _
    by _ = refl
