-- What an HMAC costs at least: the octets of its message.
use Rattle.std.proofs.Common.{ℕ, ◌+◌, ◌*◌, ◌≤◌, arith}
use Rattle.std.specs.Prelude.{IsTrue, if◌then◌else◌}
use Rattle.jwt_mac.specs.Algorithm.{is_hmac_alg, kind_of, is_hmac, block_by, digest_by, key_cost, try_cost}
use Rattle.jwt_mac.specs.declared.algorithm.Alg.{Alg}
use Rattle.jwt_mac.specs.declared.algorithm.Kind.{Kind}
use Rattle.jwt_mac.specs.declared.algorithm.Kind.TheVariants.{Hmac}

pub message-le-cost : (alg : Alg) → IsTrue (is_hmac_alg alg) → (key_len message_len : ℕ) → message_len ≤ try_cost alg key_len message_len
unfolding try_cost
message-le-cost alg h k m = by (kind_of alg) h
  where
    by : (kind : Kind) → IsTrue (is_hmac kind) → m ≤ (if is_hmac kind then m + 2 * block_by kind + digest_by kind + key_cost (block_by kind) k else 0)
    by (Hmac hash) h = omega arith
    by _ h = cc
