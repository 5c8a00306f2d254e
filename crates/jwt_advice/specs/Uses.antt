-- The keys that can verify, by algorithm.
use Rattle.std.specs.Prelude.{ℕ, List, Bool, not, ◌&&◌, codes}
use Rattle.std.specs.List.{count_by, list_any}
use Rattle.jwt_mac.specs.declared.algorithm.Alg.{Alg}
use Rattle.jwt_mac.specs.Verifying.{Meaning}
use Rattle.jwt_keys.specs.Keys.{KeyParts, permits_of}
use Rattle.jwt_policy.specs.Settings.{Settings}
use Rattle.jwt_policy.specs.Bars.{can_verify}
use Rattle.jwt_policy.specs.Eligible.{is_for}
use Rattle.jwt_advice.specs.RefusedKeys.{is_refused_key}

-- Some signature by the algorithm could be verified by the key: the algorithm is HMAC or has a verifier, the key is of its kind,
-- curve and size, and the key's `alg`, `use` and `key_ops` allow it.
abbrev pub serves : List Meaning → KeyParts → Alg → Bool
serves verifiers key algorithm = can_verify verifiers algorithm && is_for key algorithm && permits_of (codes "verify") key

-- a signature by the algorithm is tried with the key, and the built-in verifiers don't refuse each
abbrev pub verifies : List Meaning → Alg → KeyParts → Bool
verifies verifiers algorithm key = serves verifiers key algorithm && not (is_refused_key key.octets)

-- the number of keys that can verify signatures by the algorithm
abbrev pub key_count : List Meaning → List KeyParts → Alg → ℕ
key_count verifiers keys algorithm = count_by (verifies verifiers algorithm) keys

-- no algorithm of the policy can ever use the key
abbrev pub is_unused : Settings → List Meaning → KeyParts → Bool
is_unused policy verifiers key = not (list_any (serves verifiers key) policy.run.algs)
