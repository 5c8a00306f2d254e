use Rattle.std.proofs.Common.{◌≡◌, ◌∷◌, []}
use Rattle.jwt_jwk.specs.Sets.{IsJwkSet, set_text}
use Rattle.jwt_jwk.proofs.Files.{if_ok, set_of_one}
use Rattle.jwt_jwk.proofs.set.set_of_jwk.Goals as goal

pub returns : goal.returns
returns c = λ kid alg key is reads.
    if_ok c.around.result (λ v. v.items ≡ set_text c.args.jwk.now) (λ v. IsJwkSet kid alg (key ∷ []) v.items)
    (λ v around. set_of_one c.quoted_texts.ensures c.object_texts.ensures.object kid alg key c.args.jwk.now is reads v.items around) c.around.ensures
