use Rattle.std.proofs.Common.{◌≡◌, length, sym, ap, ◌∙◌}
use Rattle.std.proofs.Math.Path.{ap₂}
use Rattle.std.specs.Str.{bytes_eq}
use Rattle.std.proofs.lemmas.Bool.{and_left, false_from_ne_true, OnTrue_at}
use Rattle.std.proofs.lemmas.Slice.Eq.{bytes_eq-Decides}
use Rattle.jwt_rsa.specs.powers.Octets.{i2osp, without_zeros}
use Rattle.jwt_rsa.specs.Pkcs1.{encoded_message, pkcs1_accepts}
use Rattle.jwt_rsa.proofs.Keys.{not_key, by_answer, all_asked, representative, same_tests}
use Rattle.jwt_rsa.proofs.Salts.{and_true, length-i2osp}
use Rattle.jwt_rsa.proofs.pkcs1.accepts.Goals as goal

pub returns-in_default : goal.returns-in_default
unfolding pkcs1_accepts
returns-in_default c =
    sym (and_left _ _ (not_key c.args.key.n.now c.args.key.e.now c.args.signature.now (false_from_ne_true _ c.in_default.ensures)))

pub returns-then-not-recover : goal.returns-then-not-recover
unfolding pkcs1_accepts
returns-then-not-recover c =
    let key = c.in-Some.ensures.1 in
    sym (and_left _ _ (by_answer c.args.key.n.now c.args.key.e.now c.args.signature.now _ _ (ap (λ k. k.n) key) (ap (λ k. k.e) key)
    c.recover.result c.recover.ensures.asked c.if-not-recover.true))

pub returns : goal.returns
unfolding pkcs1_accepts
returns c =
    let n = c.args.key.n.now in
    let e = c.args.key.e.now in
    let s = c.args.signature.now in
    let hash = c.args.hash in
    let key = c.in-Some.ensures.1 in
    let trimmed : c.in-Some.key.n ≡ without_zeros n = ap (λ k. k.n) key in
    let exponent = ap (λ k. k.e) key in
    let em = c.recover.new.em in
    let em_is = OnTrue_at c.if-not-recover.false c.recover.ensures.number
    ∙ ap₂ i2osp (representative n e s _ _ trimmed exponent) (ap length trimmed) in
    let long : length em ≡ length (without_zeros n) = ap length em_is ∙ length-i2osp _ (length (without_zeros n)) in
    let info = c.info.ensures in
    let digest = c.octets.ensures.is ∙ c.digest.ensures.is in
    let as_read = encoded_message c.info.result.now c.octets.result.now (length em) in
    let asked = all_asked n e s _ _ trimmed exponent c.in-Some.ensures.0 (c.recover.ensures.asked.0 c.if-not-recover.false) in
    same_tests c.is_encoded.result (bytes_eq em as_read) (em ≡ as_read) c.is_encoded.ensures (bytes_eq-Decides em as_read)
    ∙ ap₂ bytes_eq em_is (λ i. encoded_message (info i) (digest i) (long i))
    ∙ sym (and_true _ _ asked)
