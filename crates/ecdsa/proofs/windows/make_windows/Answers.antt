use Rattle.std.proofs.Common.{◌≡◌, ◌≢◌, ◌+◌, ◌-◌, ◌*◌, ◌/◌, ◌%◌, ◌<◌, [], get_or, reverse, length, ap, sym, subst, ◌∙◌, refl, arith, rules}
use Rattle.std.specs.Prelude.{IfSome}
use Rattle.std.proofs.Math.Path.{ap₂}
use Rattle.ecdsa.specs.Curve.{digit_multiple}
use Rattle.ecdsa.specs.Domains.{domain}
use Rattle.ecdsa.specs.Field.{size, value, Below, formed}
use Rattle.ecdsa.specs.Residues.{Same}
use Rattle.ecdsa.specs.Stands.{AreFor}
use Rattle.ecdsa.specs.Windows.{AreBelow, AreWindows, AreRows, AreRough, IsChained}
use Rattle.ecdsa.proofs.SignatureVerdicts.{has_some}
use Rattle.ecdsa.proofs.WindowSteps.{one_longer, pushed, parted, told, as_value, turned_windows, turned_below}
use Rattle.ecdsa.proofs.windows.make_windows.Goals as goal

pub rows-init : goal.rows-init
rows-init g c =
    let f = c.args.curve.now.field in
    let m = size f in
    let n = 16 * c.args.curve.now.digits in
    let ps = c.in-Some.rough.products.items in
    let first = c.in-Some-inverse.first in
    let same : n ≡ n - 0 = omega arith in
    let path : c.at-whole.result ≡ get_or ps (n - 0) [] = c.at-whole.ensures ∙ ap₂ (λ l k. get_or l k []) c.as_slice.ensures.value same in
    record {
      below = c.in-Some-inverse.ensures.below;
      xs_long = ap length c.in_ok-xs.ensures.items;
      ys_long = ap length c.in_ok-ys.ensures.items;
      inverted = subst (λ a. (value f a * value f first) % m ≡ 1) path (has_some m (value f c.at-whole.result) (value f first) f.above c.in-Some-inverse.ensures.value);
      x = λ k below. absurd (omega arith);
      y = λ k below. absurd (omega arith);
      windows = λ P at k below. absurd (omega arith);
    }

pub settled-x-requires : goal.settled-x-requires
settled-x-requires g c =
    let f = c.args.curve.now.field in
    let n = 16 * c.args.curve.now.digits in
    let k = n - 1 - c.rows.r in
    let rough = c.in-Some.rough in
    let within : k < n = omega arith in
    let rows : AreRows f n rough.xs.items rough.ys.items rough.zs.items =
    subst (λ o. IfSome o (λ r. AreRows f n r.xs.items r.ys.items r.zs.items)) c.in-Some.is c.in_ok-rough.ensures.rows in
    let x_is : c.at.result ≡ get_or rough.xs.items k [] = c.at.ensures ∙ ap (λ l. get_or l k []) c.as_slice-in-rows-3.ensures.value in
    let y_is : c.at-in-rows.result ≡ get_or rough.ys.items k [] = c.at-in-rows.ensures ∙ ap (λ l. get_or l k []) c.as_slice-in-rows-4.ensures.value in
    let x_below : Below f c.at.result = subst (λ a. Below f a) (sym x_is) (rows.x k within) in
    let y_below : Below f c.at-in-rows.result = subst (λ a. Below f a) (sym y_is) (rows.y k within) in
    let i_below : Below f c.times-i.result = c.times-i.ensures.below in
    search rules

pub rows-preserved : goal.rows-preserved
rows-preserved g c =
    let f = c.args.curve.now.field in
    let E = domain c.args.curve.now in
    let m = size f in
    let r = c.rows.r in
    let n = 16 * c.args.curve.now.digits in
    let k = n - 1 - r in
    let it = c.rows.invariant in
    let rough = c.in-Some.rough in
    let ps = rough.products.items in
    let within : k < n = omega arith in
    let up : k + 1 ≡ n - r = omega arith in
    let down : k ≡ n - (r + 1) = omega arith in
    let chain : IsChained f n rough.zs.items ps =
    subst (λ o. IfSome o (λ r. IsChained f n r.zs.items r.products.items)) c.in-Some.is c.in_ok-rough.ensures.chained in
    let z_is : c.at-z.result ≡ get_or rough.zs.items k [] = c.at-z.ensures ∙ ap (λ l. get_or l k []) c.as_slice-in-rows.ensures.value in
    let before_is : c.at-before.result ≡ get_or ps k [] = c.at-before.ensures ∙ ap (λ l. get_or l k []) c.as_slice-in-rows-2.ensures.value in
    let x_is : c.at.result ≡ get_or rough.xs.items k [] = c.at.ensures ∙ ap (λ l. get_or l k []) c.as_slice-in-rows-3.ensures.value in
    let y_is : c.at-in-rows.result ≡ get_or rough.ys.items k [] = c.at-in-rows.ensures ∙ ap (λ l. get_or l k []) c.as_slice-in-rows-4.ensures.value in
    let B = value f c.at-before.result in
    let Z = value f c.at-z.result in
    let I = value f c.rows.inverse in
    let V = value f (get_or ps (n - r) []) in
    let link : Same m V (B * Z) =
    ap (λ j. value f (get_or ps j []) % m) (sym up) ∙ chain.each k within ∙ ap₂ (λ a b. (value f a * value f b) % m) (sym before_is) (sym z_is) in
    let parts = parted m V B Z I (value f c.times-i.result) (value f c.times-inverse.result) it.inverted link c.times-i.ensures.product c.times-inverse.ensures.product in
    let xs = c.rows.xs.items in
    let ys = c.rows.ys.items in
    let xs' = c.push.new.self.items in
    let ys' = c.push-in-rows.new.self.items in
    let x = c.settled-x.result.0 in
    let y = c.settled-x.result.1 in
    record {
      below = c.times-inverse.ensures.below;
      xs_long = one_longer xs xs' x r it.xs_long c.in_ok-push.ensures.items;
      ys_long = one_longer ys ys' y r it.ys_long c.in_ok-push-2.ensures.items;
      inverted = subst (λ a. (value f a * value f c.times-inverse.result) % m ≡ 1) (before_is ∙ ap (λ j. get_or ps j []) down) parts.1;
      x = pushed (λ j a b c. Below f a) xs xs xs xs' xs' xs' x x x r it.xs_long it.xs_long it.xs_long c.in_ok-push.ensures.items c.in_ok-push.ensures.items c.in_ok-push.ensures.items it.x c.settled-x.ensures.x;
      y = pushed (λ j a b c. Below f a) ys ys ys ys' ys' ys' y y y r it.ys_long it.ys_long it.ys_long c.in_ok-push-2.ensures.items c.in_ok-push-2.ensures.items c.in_ok-push-2.ensures.items it.y c.settled-x.ensures.y;
      windows = λ P at.
          let all : AreRough f E P n rough.xs.items rough.ys.items rough.zs.items =
          subst (λ o. IfSome o (λ r. AreRough f E P n r.xs.items r.ys.items r.zs.items)) c.in-Some.is (c.in_ok-rough.ensures.windows P at) in
          let R = digit_multiple E (4 * (k / 16)) 4 (k % 16) P in
          let here : k % 16 ≢ 0 → AreFor m (value f c.at.result) (value f c.at-in-rows.result) Z R =
          λ some.
          subst (λ a. AreFor m (value f a) (value f c.at-in-rows.result) Z R) (sym x_is)
          (subst (λ a. AreFor m (value f (get_or rough.xs.items k [])) (value f a) Z R) (sym y_is)
          (subst (λ a. AreFor m (value f (get_or rough.xs.items k [])) (value f (get_or rough.ys.items k [])) (value f a) R) (sym z_is) (all k within some))) in
          pushed (λ j a b c. (n - 1 - j) % 16 ≢ 0 → AreFor m (formed g.row.N m a) (formed g.row.N m b) 1 (digit_multiple E (4 * ((n - 1 - j) / 16)) 4 ((n - 1 - j) % 16) P)) xs ys ys xs' ys' ys' x y y r it.xs_long it.ys_long it.ys_long c.in_ok-push.ensures.items c.in_ok-push-2.ensures.items c.in_ok-push-2.ensures.items
          (it.windows P at)
          (λ some.
          subst (λ a. AreFor m a (formed g.row.N m y) 1 R) (as_value f x)
          (subst (λ b. AreFor m (value f x) b 1 R) (as_value f y) (c.settled-x.ensures.stands Z R parts.0 (here some))));
    }

pub returns-clause-below : goal.returns-clause-below
returns-clause-below g c =
    let f = c.args.curve.now.field in
    let E = domain c.args.curve.now in
    let n = 16 * c.args.curve.now.digits in
    let it = c.rows.invariant in
    let end : c.rows.r ≡ n = omega arith in
    subst (λ a. AreBelow E a c.reverse-2.new.self.items) (sym c.reverse.ensures.items)
    (subst (λ b. AreBelow E (reverse c.rows.xs.items) b) (sym c.reverse-2.ensures.items)
    (turned_below E c.rows.xs.items c.rows.ys.items n refl (it.xs_long ∙ end) (it.ys_long ∙ end) (λ k below. told f _ (it.x k (subst (λ j. k < j) (sym end) below))) (λ k below. told f _ (it.y k (subst (λ j. k < j) (sym end) below)))))

pub returns-clause-windows : goal.returns-clause-windows
returns-clause-windows g c P at =
    let f = c.args.curve.now.field in
    let E = domain c.args.curve.now in
    let n = 16 * c.args.curve.now.digits in
    let it = c.rows.invariant in
    let end : c.rows.r ≡ n = omega arith in
    subst (λ a. AreWindows g.row.N E P a c.reverse-2.new.self.items) (sym c.reverse.ensures.items)
    (subst (λ b. AreWindows g.row.N E P (reverse c.rows.xs.items) b) (sym c.reverse-2.ensures.items)
    (turned_windows g.row.N E P c.rows.xs.items c.rows.ys.items n refl (it.xs_long ∙ end) (it.ys_long ∙ end) (λ k below. it.windows P at k (subst (λ j. k < j) (sym end) below))))
