-- A name is that of one algorithm.
use Rattle.std.proofs.Common.{◌≡◌, true, Some, refl, sym, ap, ◌∙◌}
use Rattle.std.specs.Str.{bytes_eq}
use Rattle.std.proofs.lemmas.Slice.Eq.{bytes_eq-Decides}
use Rattle.jwt_mac.specs.declared.algorithm.Alg.{Alg}
use Rattle.jwt_mac.specs.declared.algorithm.Alg.TheVariants.{HS256, HS384, HS512, RS256, RS384, RS512, PS256, PS384, PS512, ES256, ES384, ES512, EdDSA}
use Rattle.jwt_mac.specs.Algorithm.{name_of, alg_named}

pub named : (alg : Alg) → alg_named (name_of alg) ≡ Some alg
unfolding alg_named
named HS256 = refl
named HS384 = refl
named HS512 = refl
named RS256 = refl
named RS384 = refl
named RS512 = refl
named PS256 = refl
named PS384 = refl
named PS512 = refl
named ES256 = refl
named ES384 = refl
named ES512 = refl
named EdDSA = refl

pub same_name : (a b : Alg) → bytes_eq (name_of b) (name_of a) ≡ true → b ≡ a
same_name a b same =
    let names : name_of b ≡ name_of a = (bytes_eq-Decides (name_of b) (name_of a)).0 same in
    let both : Some b ≡ Some a = sym (named b) ∙ ap alg_named names ∙ named a in
    cc
