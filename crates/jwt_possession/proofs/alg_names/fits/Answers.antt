use Rattle.std.proofs.Common.{arith, length, ap, sym, true≢false, refl}
use Rattle.jwt_possession.proofs.Names.{next_size, no_name}
use Rattle.jwt_possession.proofs.alg_names.fits.Goals as goal

pub names-preserved : goal.names-preserved
names-preserved c =
    let size = next_size c.args.algs.now c.names.place c.names-test.true in
    let name = ap length c.text.ensures.is in
    let gap = ap length c.gap_behind.ensures in
    omega (arith, size, name, gap, c.names.invariant, c.if-size-left.false)

pub returns-then-size-left : goal.returns-then-size-left
returns-then-size-left c =
    let size = next_size c.args.algs.now c.names.place c.names-test.true in
    let name = ap length c.text.ensures.is in
    let gap = ap length c.gap_behind.ensures in (
      λ is. absurd (true≢false (sym is)),
      λ fits. absurd (omega (arith, size, name, gap, c.names.invariant, c.if-size-left.true, fits)),
    )

pub returns : goal.returns
returns c =
    let none = ap length (no_name c.args.algs.now c.names.place c.names-test.false) in (
      λ is. omega (arith, none, c.names.invariant),
      λ fits. refl,
    )
