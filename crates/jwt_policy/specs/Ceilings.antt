-- The ceiling on tries of whoever opens documents once and judges many tokens by them.
use Rattle.std.specs.Prelude.{Bool, true, false, not, Option, Some, None, ℕ}
use Rattle.std.specs.List.{list_any}
use Rattle.jwt_mac.specs.Algorithm.{is_hmac_alg}
use Rattle.jwt_mac.specs.declared.algorithm.Alg.{Alg}
use Rattle.jwt_policy.specs.Settings.{Settings}

-- whether an algorithm has public keys
abbrev pub has_public_keys : Alg → Bool
has_public_keys alg = not (is_hmac_alg alg)

-- whether a policy allows one that has
abbrev pub allows_public_keys : Settings → Bool
allows_public_keys s = list_any has_public_keys s.run.algs

-- the ceiling on the tries of a run: the one that is named; 64 where none is named and an algorithm is allowed whose keys are public
abbrev pub ceiling_of : Option ℕ → Bool → Option ℕ
ceiling_of (Some calls) _ = Some calls
ceiling_of None true = Some 64
ceiling_of None false = None

-- a policy with that ceiling
abbrev pub with_ceiling : Settings → Settings
with_ceiling s = record {
  run = s.run;
  header = s.header;
  claims = s.claims;
  max_calls = ceiling_of s.max_calls (allows_public_keys s);
}
