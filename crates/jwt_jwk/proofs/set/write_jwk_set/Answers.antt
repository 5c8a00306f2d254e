use Rattle.std.proofs.Common.{◌∙◌, sym, subst}
use Rattle.jwt_mac.specs.Verifying.{key_octets}
use Rattle.jwt_jwk.specs.Jwk.{ReadsAsKey, optional_text}
use Rattle.jwt_jwk.proofs.set.write_jwk_set.Goals as goal

pub returns-in-Ok-clause-ok : goal.returns-in-Ok-clause-ok
returns-in-Ok-clause-ok c =
    let kid = optional_text c.args.kid in
    let alg = optional_text c.args.alg in
    let key = key_octets c.args.key in
    c.in-Ok.ensures (λ _. kid) alg key (c.deref.ensures.value ∙ c.in_ok-jwk.ensures.text)
    (subst (ReadsAsKey kid alg key) (sym c.deref.ensures.value) c.in_ok-jwk.ensures.reads_back)
