use Rattle.std.proofs.Common.{◌≡◌, ◌++◌, length, refl, arith}
use Rattle.jwt_text.proofs.GrowthLemmas.{adds_entries}
use Rattle.jwt_text.proofs.store.Store.add_entries.Goals as goal

pub returns : goal.returns
returns c =
    let items : c.extend_from_slice.new.self.items ≡ c.args.self.now.entries.items ++ c.args.entries.now = grind arith in
    let start : c.in_ok-span.span.start ≡ length c.args.self.now.entries.items = grind arith in
    let len : c.in_ok-span.span.len ≡ length c.args.entries.now = grind arith in
    adds_entries _ _ c.args.entries.now c.in_ok-span.span refl refl refl items start len
