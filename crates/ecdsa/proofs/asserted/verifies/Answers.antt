use Rattle.std.proofs.Common.{ap, sym, subst, ◌∙◌}
use Rattle.std.specs.Prelude.{IfSome}
use Rattle.std.proofs.Math.Path.{ap₂}
use Rattle.std.specs.Int.Digits.{number_from_digits}
use Rattle.numbers.specs.Limbs.{number}
use Rattle.ecdsa.specs.Curve.{Point.Affine}
use Rattle.ecdsa.specs.Domains.{domain}
use Rattle.ecdsa.specs.Windows.{AreWindows}
use Rattle.ecdsa.proofs.OctetVerdicts.{last_part, other_x, other_y, other_signature, tested}
use Rattle.ecdsa.proofs.asserted.verifies.Goals as goal

pub returns-then-x-octets : goal.returns-then-x-octets
returns-then-x-octets g c base own = other_x (domain c.args.curve.now) c.args.octets c.args.asserted.now.digest.now c.args.asserted.now.x.now c.args.asserted.now.y.now c.args.asserted.now.signature.now c.if-x-octets.true

pub returns-then-y-octets : goal.returns-then-y-octets
returns-then-y-octets g c base own = other_y (domain c.args.curve.now) c.args.octets c.args.asserted.now.digest.now c.args.asserted.now.x.now c.args.asserted.now.y.now c.args.asserted.now.signature.now c.if-x-octets.false c.if-y-octets.true

pub returns-then-signature-octets : goal.returns-then-signature-octets
returns-then-signature-octets g c base own =
    other_signature (domain c.args.curve.now) c.args.octets c.args.asserted.now.digest.now c.args.asserted.now.x.now c.args.asserted.now.y.now c.args.asserted.now.signature.now c.if-x-octets.false c.if-y-octets.false c.if-signature-octets.true

pub returns : goal.returns
returns g c base own =
    let signature = c.args.asserted.now.signature.now in
    c.holds.ensures base
    (subst (λ P. IfSome c.args.tables.now.key (λ t. AreWindows g.row.N (domain c.args.curve.now) P t.now.xs.items t.now.ys.items)) (sym (ap₂ Affine c.from_octets-key_x.ensures.is c.from_octets-key_y.ensures.is)) own)
    ∙ tested (domain c.args.curve.now) c.args.octets c.args.asserted.now.digest.now c.args.asserted.now.x.now c.args.asserted.now.y.now signature (number c.from_octets-key_x.result) (number c.from_octets-key_y.result)
    (number c.from_octets-e.result) (number c.from_octets-r.result) (number c.from_octets-s.result) c.if-x-octets.false c.if-y-octets.false c.if-signature-octets.false
    c.from_octets-key_x.ensures.is c.from_octets-key_y.ensures.is c.from_octets-e.ensures.is c.from_octets-r.ensures.is
    (c.from_octets-s.ensures.is ∙ ap (number_from_digits 256) (last_part signature c.args.octets c.args.octets c.if-signature-octets.false))
