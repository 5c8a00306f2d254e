use Rattle.std.proofs.Common.{ap, refl, sym, ◌∙◌, arith}
use Rattle.std.proofs.lemmas.Option.{same_Some}
use Rattle.jwt_possession.proofs.Numbers.{counted_less, counted_less_none, of_itself}
use Rattle.jwt_possession.proofs.OncePlaces.{its_moment, less_placed, less_owned, less_placed_none, less_owned_none}
use Rattle.jwt_possession.proofs.Going.{lets_go}
use Rattle.jwt_possession.proofs.once.once.Once.let_go.Goals as goal

pub remove-requires-in-Some-owner : goal.remove-requires-in-Some-owner
remove-requires-in-Some-owner c =
    let owner = c.in-Some-owner.owner in
    omega (arith, c.args.self.now.counted owner, c.in-Some.ensures.numbers owner, of_itself c.in-Some.its owner c.in-Some-owner.is)

pub invariant_of-self-in-Some-owner : goal.invariant_of-self-in-Some-owner
invariant_of-self-in-Some-owner c =
    let once = c.args.self.now in
    let m = once.table.held in
    let n = c.remove.new.self.held in
    let it = c.in-Some.its in
    let owner = c.in-Some-owner.owner in
    let of = c.in-Some-owner.is in
    let t = once.owners.places in
    let s = c.remove-in-Some-owner.new.self.places in
    let up = c.remove-in-Some-owner.ensures.places in
    record {
      some = once.some;
      one = once.one;
      few = omega (arith, once.few, c.in-Some.ensures.fewer);
      shared = λ whose. omega (arith, once.shared whose, c.in-Some.ensures.numbers whose);
      counted = counted_less m n once.owners.numbers c.remove-in-Some-owner.new.self.numbers it owner of c.in-Some.ensures.numbers c.remove-in-Some-owner.ensures.numbers once.counted;
      placed = less_placed m n c.args.mark.now it c.in-Some.ensures.others owner of t s up (sym c.in-Some.ensures.value) once.placed;
      owned = less_owned m n c.args.mark.now it c.in-Some.ensures.others owner of t s up c.in-Some.ensures.gone once.owned;
    }

pub invariant_of-self-in-None : goal.invariant_of-self-in-None
invariant_of-self-in-None c =
    let once = c.args.self.now in
    let m = once.table.held in
    let n = c.remove.new.self.held in
    let it = c.in-Some.its in
    let t = once.owners.places in
    record {
      some = once.some;
      one = once.one;
      few = omega (arith, once.few, c.in-Some.ensures.fewer);
      shared = λ whose. omega (arith, once.shared whose, c.in-Some.ensures.numbers whose);
      counted = counted_less_none m n once.owners.numbers it c.in-None.is c.in-Some.ensures.numbers once.counted;
      placed = less_placed_none m n c.args.mark.now it c.in-Some.ensures.others t (sym c.in-Some.ensures.value) c.in-None.is once.placed;
      owned = less_owned_none m n c.args.mark.now it c.in-Some.ensures.others t c.in-Some.ensures.gone once.owned;
    }

pub returns-in-Some-owner-clause-gone : goal.returns-in-Some-owner-clause-gone
returns-in-Some-owner-clause-gone c =
    let same = ap its_moment (same_Some c.requires.0 c.in-Some.its (sym c.requires.1 ∙ sym c.in-Some.ensures.value)) in
    lets_go c.args.self.now _ c.args.mark.now c.in-Some.its (sym c.in-Some.ensures.value) (omega (arith, same, c.requires.2)) c.in-Some.ensures.gone c.in-Some.ensures.others
    c.in-Some.ensures.fewer c.in-Some.ensures.numbers refl refl refl refl refl c.max-self.ensures

pub returns-in-None-clause-gone : goal.returns-in-None-clause-gone
returns-in-None-clause-gone c =
    let same = ap its_moment (same_Some c.requires.0 c.in-Some.its (sym c.requires.1 ∙ sym c.in-Some.ensures.value)) in
    lets_go c.args.self.now _ c.args.mark.now c.in-Some.its (sym c.in-Some.ensures.value) (omega (arith, same, c.requires.2)) c.in-Some.ensures.gone c.in-Some.ensures.others
    c.in-Some.ensures.fewer c.in-Some.ensures.numbers refl refl refl refl refl c.max-self.ensures
