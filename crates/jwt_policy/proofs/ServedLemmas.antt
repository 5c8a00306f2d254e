-- The rows on `alg`, by its text.
use Rattle.std.proofs.Common.{◌≡◌, Bool, true, false, List, ℕ, Some, refl}
use Rattle.std.specs.Prelude.{codes}
use Rattle.std.specs.List.{list_any}
use Rattle.std.specs.Str.{bytes_eq}
use Rattle.jwt_mac.specs.declared.algorithm.Alg.{Alg}
use Rattle.jwt_mac.specs.Algorithm.{name_of, alg_named}
use Rattle.jwt_mac.specs.Verifying.{Meaning}
use Rattle.jwt_jws.specs.Token.{SignatureParts, alg_text}
use Rattle.jwt_policy.specs.Settings.{Settings}
use Rattle.jwt_policy.specs.Bars.{bar_of, can_verify}
use Rattle.jwt_policy.specs.declared.sig_fault.SigFault.TheVariants.{AlgNotAllowed, NoVerifier}

abbrev is_listed : Settings → Alg → Bool
is_listed p a = list_any (λ b. bytes_eq (name_of b) (name_of a)) p.run.algs

pub not_allowed : (p : Settings) (s : SignatureParts) (v : List Meaning) (t : List ℕ) (a : Alg) → alg_text s ≡ Some t → bytes_eq t (codes "none") ≡ false → alg_named t ≡ Some a
    → is_listed p a ≡ false → bar_of p s v ≡ Some AlgNotAllowed
unfolding bar_of
not_allowed p s v t a text other named unlisted = rw (text, other, named, unlisted) refl

pub not_verified : (p : Settings) (s : SignatureParts) (v : List Meaning) (t : List ℕ) (a : Alg) → alg_text s ≡ Some t → bytes_eq t (codes "none") ≡ false → alg_named t ≡ Some a
    → is_listed p a ≡ true → can_verify v a ≡ false → bar_of p s v ≡ Some NoVerifier
unfolding bar_of
not_verified p s v t a text other named listed none = rw (text, other, named, listed, none) refl
