use Rattle.std.proofs.Common.{true, false, IfErr, sym, subst}
use Rattle.jwt_command.specs.Jwk.{AreKeysAs, IsFaultAs}
use Rattle.jwt_command.proofs.jwk.of_pem.Goals as goal

pub returns-then-bare-clause-only : goal.returns-then-bare-clause-only
returns-then-bare-clause-only c are =
    let alone : AreKeysAs false true c.args.octets.now = subst (λ bare. AreKeysAs false bare c.args.octets.now) c.if-bare.true are in
    c.jwk_of_pem.ensures.only alone.0 alone.1

pub returns-else-bare-clause-only : goal.returns-else-bare-clause-only
returns-else-bare-clause-only c are =
    let all : AreKeysAs false false c.args.octets.now = subst (λ bare. AreKeysAs false bare c.args.octets.now) c.if-bare.false are in
    c.jwk_set_of_pem.ensures.only all.0 all.1 all.2 all.3

pub returns-then-bare-clause-exact : goal.returns-then-bare-clause-exact
returns-then-bare-clause-exact c = subst (λ bare. IfErr c.jwk_of_pem.result (IsFaultAs false bare c.args.octets.now)) (sym c.if-bare.true) c.jwk_of_pem.ensures.exact

pub returns-else-bare-clause-exact : goal.returns-else-bare-clause-exact
returns-else-bare-clause-exact c = subst (λ bare. IfErr c.jwk_set_of_pem.result (IsFaultAs false bare c.args.octets.now)) (sym c.if-bare.false) c.jwk_set_of_pem.ensures.exact
