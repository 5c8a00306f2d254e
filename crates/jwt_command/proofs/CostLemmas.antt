-- One message's cost fits, where key and message are short.
use Rattle.std.proofs.Common.{◌≤◌, ℕ, ◌+◌, ◌*◌, Bool, true, false, cond, arith}
use Rattle.std.specs.Prelude.{nat_lt, if◌then◌else◌}
use Rattle.jwt_mac.specs.declared.algorithm.Alg.{Alg}
use Rattle.jwt_mac.specs.declared.algorithm.Hash.TheVariants.{Sha256, Sha384, Sha512}
use Rattle.jwt_mac.specs.declared.algorithm.Kind.{Kind}
use Rattle.jwt_mac.specs.declared.algorithm.Kind.TheVariants.{Hmac}
use Rattle.jwt_mac.specs.Algorithm.{kind_of, is_hmac, block_by, digest_by, key_cost, try_cost}

at_most : (b : Bool) (k : ℕ) → cond b k 0 ≤ k
at_most true k = omega arith
at_most false k = omega arith

pub cost_is_small : (alg : Alg) (k m : ℕ) → try_cost alg k m ≤ m + k + 320
unfolding try_cost
cost_is_small alg k m = by (kind_of alg)
  where
    by : (kind : Kind) → (if is_hmac kind then m + 2 * block_by kind + digest_by kind + key_cost (block_by kind) k else 0) ≤ m + k + 320
    by (Hmac Sha256) = let less = at_most (nat_lt 64 k) k in omega arith
    by (Hmac Sha384) = let less = at_most (nat_lt 128 k) k in omega arith
    by (Hmac Sha512) = let less = at_most (nat_lt 128 k) k in omega arith
    by _ = omega arith
