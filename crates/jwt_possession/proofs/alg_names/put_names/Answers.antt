use Rattle.std.proofs.Common.{arith, ◌≡◌, ℕ, ◌+◌, List, ◌++◌, length, take, ap, sym, ◌∙◌}
use Rattle.jwt_possession.specs.AlgNames.{algs_text}
use Rattle.jwt_possession.proofs.Names.{next_name, next_size, no_name, gap, rest, written_on, all_written}
use Rattle.jwt_possession.proofs.alg_names.put_names.Goals as goal

pub put_at-requires : goal.put_at-requires
put_at-requires c =
    let size = next_size c.args.algs.now c.names.place c.names-test.true in
    let name = ap length c.text.ensures.is in
    omega (arith, size, name, c.names.invariant.1, c.names.invariant.2, c.requires)

pub put_at-requires-in-names : goal.put_at-requires-in-names
put_at-requires-in-names c =
    let size = next_size c.args.algs.now c.names.place c.names-test.true in
    let name = ap length c.text.ensures.is in
    let gap = ap length c.gap_behind-gap.ensures in
    omega (arith, size, name, gap, c.put_at.ensures.length, c.names.invariant.1, c.names.invariant.2, c.requires)

pub names-preserved : goal.names-preserved
names-preserved c =
    let algs = c.args.algs.now in
    let place = c.names.place in
    let total = length (algs_text algs) in
    let name = c.as_bytes-name.ensures.value ∙ c.text.ensures.is in
    let parts : rest algs place ≡ c.as_bytes-name.result.now ++ (c.gap_behind-gap.result.now ++ rest algs (place + 1)) =
    next_name algs place c.names-test.true ∙ ap (λ (t : List ℕ). t ++ (gap algs place ++ rest algs (place + 1))) (sym name)
    ∙ ap (λ (t : List ℕ). c.as_bytes-name.result.now ++ (t ++ rest algs (place + 1))) (sym c.gap_behind-gap.ensures) in
    let size = next_size algs place c.names-test.true in
    let named = ap length name in
    let spaced = ap length c.gap_behind-gap.ensures in
    let more : c.names.at + length c.as_bytes-name.result.now + length c.gap_behind-gap.result.now + length (rest algs (place + 1)) ≡ total =
    omega (arith, size, named, spaced, c.names.invariant.1) in (
      written_on c.names.out c.put_at.new.out c.put_at-in-names.new.out c.as_bytes-name.result.now c.gap_behind-gap.result.now (rest algs (place + 1)) (algs_text algs) c.names.at
          (ap (λ (t : List ℕ). take c.names.at c.names.out ++ t) (sym parts) ∙ c.names.invariant.0) c.put_at.ensures.front c.put_at-in-names.ensures.front,
      more,
      omega (arith, c.put_at.ensures.length, c.put_at-in-names.ensures.length, c.names.invariant.2),
      c.put_at-in-names.ensures.behind total (omega (arith, more)) ∙ c.put_at.ensures.behind total (omega (arith, more)) ∙ c.names.invariant.3,
    )

pub returns-clause-size : goal.returns-clause-size
returns-clause-size c =
    let none = ap length (no_name c.args.algs.now c.names.place c.names-test.false) in
    omega (arith, none, c.names.invariant.1)

pub returns-clause-text : goal.returns-clause-text
returns-clause-text c =
    let algs = c.args.algs.now in
    let none = no_name algs c.names.place c.names-test.false in
    let empty = ap length none in
    all_written c.args.out.now c.names.out (algs_text algs) c.names.at (ap (λ (t : List ℕ). take c.names.at c.names.out ++ t) (sym none) ∙ c.names.invariant.0)
    (omega (arith, empty, c.names.invariant.1)) c.names.invariant.3
