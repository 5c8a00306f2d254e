use Rattle.std.proofs.Common.{◌≡◌, ◌≤◌, ◌++◌, length, refl, arith}
use Rattle.jwt_text.proofs.GrowthLemmas.{adds_short}
use Rattle.jwt_text.proofs.store.Store.add_short.Goals as goal

pub returns : goal.returns
returns c =
    let items : c.extend_from_slice.new.self.items ≡ c.args.self.now.nodes.items ++ c.args.nodes.now = grind arith in
    let start : c.in_ok-span.span.start ≡ length c.args.self.now.nodes.items = grind arith in
    let len : c.in_ok-span.span.len ≡ length c.args.nodes.now = grind arith in
    let few : c.in_ok-span.span.len ≤ 4096 = grind arith in
    adds_short _ _ c.args.nodes.now c.in_ok-span.span refl items refl refl start len few
