use Rattle.std.proofs.Common.{◌≡◌, ◌<◌, ◌++◌, ◌∷◌, [], length, refl, arith}
use Rattle.jwt_text.proofs.GrowthLemmas.{adds_long}
use Rattle.jwt_text.proofs.store.Store.add_long.Goals as goal

pub returns : goal.returns
returns c =
    let v = c.in_ok-nodes.nodes in
    let p = c.in_ok-span.span in
    let items : c.push.new.self.items ≡ c.args.self.now.long.items ++ v ∷ [] = grind arith in
    let start : p.start ≡ length c.args.self.now.long.items = grind arith in
    let same : v.items ≡ c.args.nodes.items = grind arith in
    let many : 4096 < p.len = grind arith in
    adds_long _ _ v c.args.nodes.items p same refl refl items refl start many
