use Rattle.std.proofs.Common.{◌≡◌, ◌≢◌, ◌+◌, ◌*◌, ◌/◌, ◌%◌, [], get_or, length, ap, subst, ◌∙◌, arith}
use Rattle.std.proofs.lemmas.List.{get_or_push}
use Rattle.ecdsa.specs.Curve.{digit_multiple}
use Rattle.ecdsa.specs.Domains.{domain}
use Rattle.ecdsa.specs.Field.{size, value}
use Rattle.ecdsa.specs.Stands.{AreFor}
use Rattle.ecdsa.specs.Windows.{IsChained}
use Rattle.ecdsa.proofs.MultipleSteps.{doubled_none}
use Rattle.ecdsa.proofs.WindowSteps.{one_longer, pushed, product_more, rows_more, no_rows, rough_slices}
use Rattle.ecdsa.proofs.windows.rough_windows.Goals as goal

pub rows-init : goal.rows-init
rows-init g c =
    let f = c.args.curve.now.field in
    let none = ap length c.in_ok-products.ensures.items in
    record {
      double_below = c.requires.p;
      product_below = c.one-product.ensures.below;
      rows = no_rows f c.in_ok-xs.xs.items c.in_ok-ys.ys.items c.in_ok-zs.zs.items (ap length c.in_ok-xs.ensures.items) (ap length c.in_ok-ys.ensures.items) (ap length c.in_ok-zs.ensures.items);
      chained = record {
        long = one_longer c.in_ok-products.products.items c.push.new.self.items c.one-product.result 0 none c.in_ok-push.ensures.items;
        each = λ k below. absurd (omega arith);
      };
      last = ap (λ l. get_or l 0 []) c.in_ok-push.ensures.items ∙ get_or_push c.in_ok-products.products.items c.one-product.result [] 0 none;
      stands = λ P at. subst (λ o. AreFor (size f) (value f c.args.p.x) (value f c.args.p.y) (value f c.args.p.z) o) (doubled_none (domain c.args.curve.now) P) at;
      rough = λ P at k below some. absurd (omega arith);
    }

pub rows-preserved : goal.rows-preserved
rows-preserved g c =
    let f = c.args.curve.now.field in
    let E = domain c.args.curve.now in
    let k = c.rows.k in
    let w = c.in-Some.window in
    let it = c.rows.invariant in
    let xs = c.rows.xs.items in
    let ys = c.rows.ys.items in
    let zs = c.rows.zs.items in
    let ps = c.rows.products.items in
    let xs' = c.push-in-rows.new.self.items in
    let ys' = c.push-in-rows-2.new.self.items in
    let zs' = c.push-in-rows-3.new.self.items in
    let ps' = c.push-in-rows-4.new.self.items in
    let product = c.times-product.result in
    let x_is = c.in_ok-push-2.ensures.items in
    let y_is = c.in_ok-push-3.ensures.items in
    let z_is = c.in_ok-push-4.ensures.items in
    let p_is = c.in_ok-push-5.ensures.items in
    record {
      double_below = c.next_double-double.ensures.below;
      product_below = c.times-product.ensures.below;
      rows = rows_more f k xs ys zs xs' ys' zs' w.x w.y w.z it.rows x_is y_is z_is c.in-Some.ensures.below.x c.in-Some.ensures.below.y c.in-Some.ensures.below.z;
      chained = record {
        long = one_longer ps ps' product (k + 1) it.chained.long p_is;
        each = product_more f zs ps zs' ps' w.z product c.rows.product k it.rows.zs_long it.chained.long z_is p_is it.last c.times-product.ensures.product it.chained.each;
      };
      last = ap (λ l. get_or l (k + 1) []) p_is ∙ get_or_push ps product [] (k + 1) it.chained.long;
      stands = λ P at. c.next_double-double.ensures.stands P (it.stands P at);
      rough = λ P at.
          pushed (λ j a b z. j % 16 ≢ 0 → AreFor (size f) (value f a) (value f b) (value f z) (digit_multiple E (4 * (j / 16)) 4 (j % 16) P)) xs ys zs xs' ys' zs' w.x w.y w.z k it.rows.xs_long it.rows.ys_long it.rows.zs_long x_is y_is z_is (it.rough P at)
          (c.in-Some.ensures.stands P
          (rough_slices f E P k xs ys zs c.as_slice.result.now c.as_slice-in-rows.result.now c.as_slice-in-rows-2.result.now c.as_slice.ensures.value c.as_slice-in-rows.ensures.value c.as_slice-in-rows-2.ensures.value (it.rough P at))
          (it.stands P at));
    }

pub returns-clause-chained : goal.returns-clause-chained
returns-clause-chained g c =
    let end : c.rows.k ≡ c.args.count = omega arith in
    subst (λ n. IsChained c.args.curve.now.field n c.rows.zs.items c.rows.products.items) end c.rows.invariant.chained
