use Rattle.std.proofs.Common.{◌≡◌, ◌<◌, ◌-◌, ◌*◌, ◌^◌, length, sym, ap, ◌∙◌, arith}
use Rattle.std.proofs.Math.Path.{ap₂}
use Rattle.std.specs.Int.{div_ceil}
use Rattle.std.proofs.lemmas.Bool.{and_left, le-ltb, lt-ltb}
use Rattle.std.proofs.lemmas.List.{take_rest}
use Rattle.jwt_rsa.specs.powers.Octets.{i2osp}
use Rattle.jwt_rsa.specs.powers.Moduli.{bit_count}
use Rattle.jwt_rsa.specs.Pss.{pss_represents, pss_verified}
use Rattle.jwt_rsa.proofs.Salts.{top_rest, top_above, top_below, and_true}
use Rattle.jwt_rsa.proofs.pss.represents.Goals as goal

pub returns-then-em-ne0 : goal.returns-then-em-ne0
unfolding pss_represents
returns-then-em-ne0 c m small is =
    let n = c.args.n.now in
    let shorter : div_ceil (bit_count n - 1) 8 ≡ length n - 1 = omega (arith, c.bits-em_bits.ensures.is) in
    let above = top_above m (length n) c.args.em.now (omega arith) is c.if-em-ne0.true in
    sym (and_left _ _ (le-ltb m _ (rw shorter above)))

pub returns-else-em-ne0 : goal.returns-else-em-ne0
unfolding pss_represents
returns-else-em-ne0 c m small is =
    let n = c.args.n.now in
    let shorter : div_ceil (bit_count n - 1) 8 ≡ length n - 1 = omega (arith, c.bits-em_bits.ensures.is) in
    let below : m < 256 ^ (length n - 1) = top_below m (length n) c.args.em.now (omega arith) small is c.if-em-ne0.false in
    let octets = take_rest c.args.em.now 1 ∙ top_rest m (length n) c.args.em.now (omega arith) is ∙ ap (i2osp m) (sym shorter) in
    let fits : m < 256 ^ div_ceil (bit_count n - 1) 8 = rw shorter below in
    c.is_verified-else-em-ne0.ensures
    ∙ ap₂ (λ os k. pss_verified c.args.hash c.args.m_hash.now os (8 * k - (c.bits-em_bits.result - 1))) octets c.div_ceil-em_len.ensures
    ∙ ap (λ b. pss_verified c.args.hash c.args.m_hash.now (i2osp m (div_ceil (bit_count n - 1) 8)) (8 * div_ceil (b - 1) 8 - (b - 1))) c.bits-em_bits.ensures.is
    ∙ sym (and_true _ _ (lt-ltb m (256 ^ div_ceil (bit_count n - 1) 8) fits))
