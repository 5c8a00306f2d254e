use Rattle.std.proofs.Common.{◌≡◌, ◌^◌, ◌<◌, length, sym, ap, ◌∙◌, arith}
use Rattle.std.proofs.Math.Nat.{mod-lt}
use Rattle.std.proofs.lemmas.Bool.{and_left, false_from_ne_true, OnTrue_at}
use Rattle.jwt_rsa.specs.powers.Octets.{os2ip, without_zeros}
use Rattle.jwt_rsa.specs.PublicKey.{rsavp1}
use Rattle.jwt_rsa.specs.Pss.{pss_represents, pss_accepts}
use Rattle.jwt_rsa.proofs.Keys.{not_key, by_answer, all_asked, representative}
use Rattle.jwt_rsa.proofs.Salts.{and_true}
use Rattle.jwt_rsa.proofs.pss.accepts.Goals as goal

pub returns-in_default : goal.returns-in_default
unfolding pss_accepts
returns-in_default c =
    sym (and_left _ _ (not_key c.args.key.n.now c.args.key.e.now c.args.signature.now (false_from_ne_true _ c.in_default.ensures)))

pub returns-then-not-recover : goal.returns-then-not-recover
unfolding pss_accepts
returns-then-not-recover c =
    let key = c.in-Some.ensures.1 in
    sym (and_left _ _ (by_answer c.args.key.n.now c.args.key.e.now c.args.signature.now _ _ (ap (λ k. k.n) key) (ap (λ k. k.e) key)
    c.recover.result c.recover.ensures.asked c.if-not-recover.true))

pub returns : goal.returns
unfolding pss_accepts
returns c =
    let n = c.args.key.n.now in
    let e = c.args.key.e.now in
    let s = c.args.signature.now in
    let hash = c.args.hash in
    let key = c.in-Some.ensures.1 in
    let trimmed : c.in-Some.key.n ≡ without_zeros n = ap (λ k. k.n) key in
    let exponent = ap (λ k. k.e) key in
    let kept = c.in-Some.key.n in
    let m = rsavp1 (os2ip kept) c.in-Some.key.e (os2ip s) in
    let less = c.recover.ensures.asked.0 c.if-not-recover.false in
    let some : 0 < os2ip kept = omega (arith, less.1) in
    let small : m < 256 ^ length kept = omega (arith, c.size.ensures.fits, mod-lt (os2ip s ^ c.in-Some.key.e) some) in
    let asked = all_asked n e s _ _ trimmed exponent c.in-Some.ensures.0 less in
    c.represents.ensures m small (OnTrue_at c.if-not-recover.false c.recover.ensures.number)
    ∙ (λ i. pss_represents hash (trimmed i) ((c.octets.ensures.is ∙ c.digest.ensures.is) i) (representative n e s _ _ trimmed exponent i))
    ∙ sym (and_true _ _ asked)
