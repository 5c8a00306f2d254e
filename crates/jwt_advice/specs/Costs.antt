-- The cost of one token.
use Rattle.std.specs.Prelude.{ℕ, ◌*◌, ◌<◌, ◌≤◌, ◌&&◌, Bool, true, List, map, length, Option, Some, None, unwrap_or, if◌then◌else◌}
use Rattle.std.specs.List.{sum_by}
use Rattle.std.specs.Option.{option_map_or}
use Rattle.jwt_mac.specs.declared.algorithm.Alg.{Alg}
use Rattle.jwt_mac.specs.Algorithm.{try_cost}
use Rattle.jwt_mac.specs.Verifying.{Meaning}
use Rattle.jwt_jws.specs.Token.{Token}
use Rattle.jwt_keys.specs.Keys.{KeyParts, secret_length, has_name}
use Rattle.jwt_policy.specs.Settings.{Settings}
use Rattle.jwt_verify.specs.Table.{Table, tries, work}
use Rattle.jwt_verify.specs.Verdict.{Terms}
use Rattle.jwt_verify.specs.Asks.{IsTokenWithTable}
use Rattle.jwt_verify.specs.Paying.{IsWithin}
use Rattle.jwt_verify.specs.Verdicts.{IsUnstopped}
use Rattle.jwt_verify.specs.Laws.{greatest}
use Rattle.jwt_advice.specs.Uses.{serves}
use Rattle.jwt_advice.specs.declared.costs.Cost.{Cost}
use Rattle.jwt_advice.specs.declared.costs.Cost.TheVariants.{Work, Calls}

-- the key can verify signatures by the algorithm and, where they have a `kid`, answers to it (RFC 7515, section 4.1.4)
abbrev pub may_try : Settings → List Meaning → Option (List ℕ) → Alg → KeyParts → Bool
may_try policy verifiers kid algorithm key = serves verifiers key algorithm && option_map_or (λ name. has_name name policy.header.thumb_kid key) kid true

-- what a try of the key costs, if there is one: the octets that it feeds to HMAC, where the signing input is as long as a token may
-- be (RFC 2104, section 2), or one call
abbrev pub key_try_cost : Cost → Settings → List Meaning → Option (List ℕ) → Alg → KeyParts → ℕ
key_try_cost Work policy verifiers kid algorithm key = if may_try policy verifiers kid algorithm key then try_cost algorithm (secret_length key.octets) policy.run.limit else 0
key_try_cost Calls policy verifiers kid algorithm key = if may_try policy verifiers kid algorithm key then 1 else 0

-- what a signature by the algorithm with this `kid` costs, where each key that may be is tried
abbrev pub signature_cost : Cost → Settings → List Meaning → List KeyParts → Option (List ℕ) → Alg → ℕ
signature_cost cost policy verifiers keys kid algorithm = sum_by (key_try_cost cost policy verifiers kid algorithm) keys

-- the greatest cost of a signature with this `kid`, by the algorithms of the policy
abbrev pub most_by_kid : Cost → Settings → List Meaning → List KeyParts → Option (List ℕ) → ℕ
most_by_kid cost policy verifiers keys kid = greatest (map (signature_cost cost policy verifiers keys kid) policy.run.algs)

-- the same where the `kid` is that of a key, or its thumbprint where it has none
abbrev pub most_by_name : Cost → Settings → List Meaning → List KeyParts → KeyParts → ℕ
most_by_name cost policy verifiers keys key = most_by_kid cost policy verifiers keys (Some (unwrap_or key.kid key.thumbprint))

abbrev pub most_by_names : Cost → Settings → List Meaning → List KeyParts → ℕ
most_by_names cost policy verifiers keys = greatest (map (most_by_name cost policy verifiers keys) keys)

-- the greatest cost of a signature: where the policy asks for a `kid`, by the names of the keys, and else without one, since it is
-- tried with the most keys then
abbrev pub most_of_signature : Cost → Settings → List Meaning → List KeyParts → ℕ
most_of_signature cost policy verifiers keys = if policy.header.need_kid then most_by_names cost policy verifiers keys else most_by_kid cost policy verifiers keys None

-- the greatest cost of a token: it has as many signatures as are allowed
abbrev pub greatest_cost : Cost → Settings → List Meaning → List KeyParts → ℕ
greatest_cost cost policy verifiers keys = policy.run.max_signatures * most_of_signature cost policy verifiers keys

-- ---- Cited by laws alone

-- no token costs more
abbrev pub CostsAreBounded : Type 0
CostsAreBounded = (terms : Terms) (octets : List ℕ) (token : Token) (table : Table) → IsTokenWithTable terms octets token table → 0 < terms.policy.run.max_signatures
    → (work (tries table) ≤ greatest_cost Work terms.policy terms.verifiers terms.keys) × (length (tries table) ≤ greatest_cost Calls terms.policy terms.verifiers terms.keys)

-- ceilings of as much stop no run
abbrev pub CeilingsSuffice : Type 0
CeilingsSuffice = (terms : Terms) (octets : List ℕ) (ceiling : ℕ) → 0 < terms.policy.run.max_signatures → greatest_cost Work terms.policy terms.verifiers terms.keys ≤ ceiling
    → IsWithin terms.policy.max_calls (greatest_cost Calls terms.policy terms.verifiers terms.keys) → IsUnstopped terms octets ceiling
