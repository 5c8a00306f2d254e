use Rattle.std.proofs.Common.{◌≡◌, refl, ap, Option, Some, None, Bool, true, false, ℕ}
use Rattle.jwt_policy.specs.Ceilings.{ceiling_of, allows_public_keys, with_ceiling}
use Rattle.jwt_policy.specs.Settings.{Settings}

-- a ceiling that was given stays
ceiling_twice : (named : Option ℕ) → (public : Bool) → ceiling_of (ceiling_of named public) public ≡ ceiling_of named public
ceiling_twice (Some calls) public = refl
ceiling_twice None true = refl
ceiling_twice None false = refl

-- a policy with its ceiling is itself with one
pub stays : (s : Settings) → with_ceiling (with_ceiling s) ≡ with_ceiling s
stays s = ap (λ calls. record { run = s.run; header = s.header; claims = s.claims; max_calls = calls }) (ceiling_twice s.max_calls (allows_public_keys s))
