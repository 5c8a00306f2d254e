use Rattle.std.proofs.Common.{length, inl, inr, ap, sym, ◌∙◌, arith}
use Rattle.std.proofs.lemmas.Cmp.{nat_list_cmp_total}
use Rattle.std.proofs.lemmas.Map.Lookups.{btree_map_from_get, exact_bytes}
use Rattle.jwt_possession.proofs.Numbers.{counted_more, counted_more_none, shared_more, same_number, same_held}
use Rattle.jwt_possession.proofs.OncePlaces.{Differs, back, more_placed, more_owned, more_placed_none, more_owned_none}
use Rattle.jwt_possession.proofs.once.once.Once.insert.Goals as goal

pub invariant_of-self : goal.invariant_of-self
invariant_of-self c =
    let once = c.args.self.now in
    let m = once.table.held in
    let n = c.insert.new.self.held in
    let same = c.in_err-insert.ensures.unchanged in
    record {
      some = once.some;
      one = once.one;
      few = omega (arith, once.few, ap length same);
      shared = λ whose. omega (arith, once.shared whose, same_number m n same whose);
      counted = λ whose. once.counted whose ∙ sym (same_number m n same whose);
      placed = λ o u q h. same_held m n same q ∙ once.placed o u q h;
      owned = λ o u q h. once.owned o u q (sym (same_held m n same q) ∙ h);
    }

pub invariant_of-self-in_default : goal.invariant_of-self-in_default
invariant_of-self-in_default c =
    let once = c.args.self.now in
    let m = once.table.held in
    let n = c.insert.new.self.held in
    let t = once.owners.places in
    let differs : Differs m n c.args.mark = λ q. elim (c.in_ok-insert.ensures.others q) [
      | inl e ↦ inl e
      | inr e ↦ inr e.1
    ] in
    record {
      some = once.some;
      one = once.one;
      few = omega (arith, c.requires.room, c.in_ok-insert.ensures.more);
      shared = shared_more m n c.args.its once.share c.in_ok-insert.ensures.numbers c.requires.own once.shared;
      counted = counted_more_none m n once.owners.numbers c.args.its c.in_default.is c.in_ok-insert.ensures.numbers once.counted;
      placed = more_placed_none m n c.args.mark c.args.its differs t c.requires.absent once.placed;
      owned = more_owned_none m n c.args.mark c.args.its differs t c.in_ok-insert.ensures.added c.in_default.is once.owned;
    }

pub invariant_of-self-in-Ok : goal.invariant_of-self-in-Ok
invariant_of-self-in-Ok c =
    let once = c.args.self.now in
    let m = once.table.held in
    let n = c.insert.new.self.held in
    let t = once.owners.places in
    let s = c.add.new.self.places in
    let owner = c.in-Some.owner in
    let of = c.in-Some.is in
    let up = c.in-Ok.ensures.places in
    let differs : Differs m n c.args.mark = λ q. elim (c.in_ok-insert.ensures.others q) [
      | inl e ↦ inl e
      | inr e ↦ inr e.1
    ] in
    record {
      some = once.some;
      one = once.one;
      few = omega (arith, c.requires.room, c.in_ok-insert.ensures.more);
      shared = shared_more m n c.args.its once.share c.in_ok-insert.ensures.numbers c.requires.own once.shared;
      counted = counted_more m n once.owners.numbers c.add.new.self.numbers c.args.its owner of c.in_ok-insert.ensures.numbers c.in-Ok.ensures.numbers once.counted;
      placed = more_placed m n c.args.mark c.args.its differs owner of t s up c.requires.absent c.in_ok-insert.ensures.added once.placed;
      owned = more_owned m n c.args.mark c.args.its differs owner of t s up c.in_ok-insert.ensures.added once.owned;
    }

-- what was taken is let go again
pub invariant_of-self-in-Err : goal.invariant_of-self-in-Err
invariant_of-self-in-Err c =
    let once = c.args.self.now in
    let m = once.table.held in
    let n = c.insert.new.self.held in
    let o = c.remove.new.self.held in
    let differs : Differs m n c.args.mark = λ q. elim (c.in_ok-insert.ensures.others q) [
      | inl e ↦ inl e
      | inr e ↦ inr e.1
    ] in
    let same = back m n o c.args.mark differs c.remove.ensures.others c.requires.absent c.remove.ensures.gone in
    let entries = btree_map_from_get nat_list_cmp_total o m c.remove.new.self.ordered once.table.ordered same exact_bytes in
    record {
      some = once.some;
      one = once.one;
      few = omega (arith, once.few, ap length entries);
      shared = λ whose. omega (arith, once.shared whose, same_number m o entries whose);
      counted = λ whose. c.in-Err.ensures.same_numbers whose ∙ once.counted whose ∙ sym (same_number m o entries whose);
      placed = λ w u q h. same q ∙ once.placed w u q (sym (c.in-Err.ensures.same_places w u q) ∙ h);
      owned = λ w u q h. c.in-Err.ensures.same_places w u q ∙ once.owned w u q (sym (same q) ∙ h);
    }
