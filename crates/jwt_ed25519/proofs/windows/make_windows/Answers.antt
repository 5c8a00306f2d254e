use Rattle.std.proofs.Common.{◌≡◌, length, ap, subst, sym, arith}
use Rattle.jwt_ed25519.specs.Elements.{coordinates}
use Rattle.jwt_ed25519.specs.Windows.{AreWindows}
use Rattle.jwt_ed25519.proofs.MultipleSteps.{doubled_none, one_longer, windows_more}
use Rattle.jwt_ed25519.proofs.windows.make_windows.Goals as goal

pub rows-init : goal.rows-init
rows-init c = record {
  long = ap length c.new-table.ensures.items;
  double = doubled_none (coordinates c.args.p);
  windows = λ k below. absurd (omega (arith, below));
}

pub rows-preserved : goal.rows-preserved
rows-preserved c =
    let it = c.rows.invariant in
    let P = coordinates c.args.p in
    let xs = c.rows.table.items in
    let xs' = c.push.new.self.items in
    let slice = c.as_slice.ensures.value in
    let x = c.window_from-window.result in
    record {
      long = one_longer xs xs' x c.rows.k it.long c.in_ok-push.ensures.items;
      double = c.next_double-double.ensures P it.double;
      windows = windows_more c.rows.k P xs xs' x it.long c.in_ok-push.ensures.items it.windows
          (c.window_from-window.ensures P (subst (λ l. AreWindows c.rows.k P l) (sym slice) it.windows) it.double);
    }

pub returns : goal.returns
returns c =
    let end : c.rows.k ≡ 1024 = omega arith in
    subst (λ n. AreWindows n (coordinates c.args.p) c.rows.table.items) end c.rows.invariant.windows
