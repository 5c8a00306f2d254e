use Rattle.std.proofs.Common.{sym, subst, ◌∙◌, [], get_or, arith}
use Rattle.ecdsa.specs.Curve.{Point.Affine, doubled}
use Rattle.ecdsa.specs.Domains.{domain}
use Rattle.ecdsa.specs.Field.{size, value, Below}
use Rattle.ecdsa.specs.Stands.{AreFor}
use Rattle.ecdsa.proofs.Doublings.{at_place, as_long, row_from_first}
use Rattle.ecdsa.proofs.tables.double_at.Goals as goal

pub offset_bounds-ys-i : goal.offset_bounds-ys-i
offset_bounds-ys-i g c =
    let E = domain c.args.curve.now in
    omega (arith, c.requires.table.long, c.requires.i, as_long c.args.curve.now.field E 0 (Affine E.gx E.gy) c.args.doubles.xs.now c.args.doubles.ys.now c.requires.table.rows)

pub bounds-ys-i : goal.bounds-ys-i
bounds-ys-i g c =
    let E = domain c.args.curve.now in
    omega (arith, c.requires.table.long, c.requires.i, as_long c.args.curve.now.field E 0 (Affine E.gx E.gy) c.args.doubles.xs.now c.args.doubles.ys.now c.requires.table.rows)

pub returns-clause-below : goal.returns-clause-below
returns-clause-below g c =
    let f = c.args.curve.now.field in
    let E = domain c.args.curve.now in
    let xs = c.args.doubles.xs.now in
    let ys = c.args.doubles.ys.now in
    let i = c.args.i in
    let row = row_from_first f E (Affine E.gx E.gy) xs ys c.requires.table.rows i (omega (arith, c.requires.table.long, c.requires.i)) in
    let same = as_long f E 0 (Affine E.gx E.gy) xs ys c.requires.table.rows in
    record {
      x = subst (λ v. Below f v) (sym (c.index-xs-i.is ∙ at_place xs i c.index-xs-i.result (omega (arith, c.requires.table.long, c.requires.i)))) row.x_below;
      y = subst (λ v. Below f v) (sym (c.index-ys-i.is ∙ at_place ys i c.index-ys-i.result (omega (arith, c.requires.table.long, c.requires.i, same)))) row.y_below;
      z = c.requires.below;
    }

pub returns-clause-stands : goal.returns-clause-stands
returns-clause-stands g c =
    let f = c.args.curve.now.field in
    let E = domain c.args.curve.now in
    let xs = c.args.doubles.xs.now in
    let ys = c.args.doubles.ys.now in
    let i = c.args.i in
    let R = doubled E i (Affine E.gx E.gy) in
    let row = row_from_first f E (Affine E.gx E.gy) xs ys c.requires.table.rows i (omega (arith, c.requires.table.long, c.requires.i)) in
    let same = as_long f E 0 (Affine E.gx E.gy) xs ys c.requires.table.rows in
    subst (λ x. AreFor (size f) (value f x) (value f c.index-ys-i.result) (value f c.args.one) R)
    (sym (c.index-xs-i.is ∙ at_place xs i c.index-xs-i.result (omega (arith, c.requires.table.long, c.requires.i))))
    (subst (λ y. AreFor (size f) (value f (get_or xs i [])) (value f y) (value f c.args.one) R)
    (sym (c.index-ys-i.is ∙ at_place ys i c.index-ys-i.result (omega (arith, c.requires.table.long, c.requires.i, same))))
    (subst (λ z. AreFor (size f) (value f (get_or xs i [])) (value f (get_or ys i [])) z R) (sym c.requires.one) row.stands))
