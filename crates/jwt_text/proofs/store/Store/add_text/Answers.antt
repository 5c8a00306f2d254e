use Rattle.std.proofs.Common.{◌≡◌, ◌++◌, length, refl, arith}
use Rattle.jwt_text.proofs.GrowthLemmas.{adds_text}
use Rattle.jwt_text.proofs.store.Store.add_text.Goals as goal

pub returns : goal.returns
returns c =
    let items : c.extend_from_slice.new.self.items ≡ c.args.self.now.text.items ++ c.args.text.now = grind arith in
    let start : c.in_ok-span.span.start ≡ length c.args.self.now.text.items = grind arith in
    let len : c.in_ok-span.span.len ≡ length c.args.text.now = grind arith in
    adds_text _ _ c.args.text.now c.in_ok-span.span c.utf8.text items refl refl refl start len
