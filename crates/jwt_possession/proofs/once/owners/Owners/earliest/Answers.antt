use Rattle.std.proofs.Common.{◌≡◌, ℕ, false, List, replicate, sym, subst, ◌∙◌, inl, inr}
use Rattle.std.specs.Prelude.{IfSome, slice_get}
use Rattle.std.specs.Ordering.{is_gt}
use Rattle.std.specs.BTreeSet.{IsKeyInRange}
use Rattle.std.specs.declared.ops.Bound.TheVariants.{Included, Unbounded}
use Rattle.std.proofs.lemmas.Bool.{cases_Bool, false≢true}
use lib.Pointwise.{bytes_decides}
use Rattle.jwt_possession.specs.once.Tables.{by_place, has_place}
use Rattle.jwt_possession.proofs.Queue.{no_later}
use Rattle.jwt_possession.proofs.OncePlaces.{from_start, owner_between, turn_between}
use Rattle.jwt_possession.proofs.once.owners.Owners.earliest.Goals as goal

pub returns-then-eq-clause-least : goal.returns-then-eq-clause-least
returns-then-eq-clause-least c moment mark held =
    let place = c.in-Some.place.now in
    let owner = c.args.owner.now in
    let start = from_start owner moment mark (c.args.self.now.whole owner moment mark held) in
    let least = c.range.ensures.in_range tt in
    let same = (bytes_decides place.0 owner).0 (sym c.if-eq.ensures) in
    let behind = subst (λ (r : List (List ℕ × (ℕ × List ℕ))). IfSome (slice_get r 0) (λ k. is_gt (by_place k (owner, (moment, mark))) ≡ false)) c.in-Some.ensures.steps
    (least.2 (owner, (moment, mark)) (start, tt) held) in
    no_later place.1.0 moment place.1.1 mark (turn_between owner place.0 place.1 (moment, mark) same behind)

pub returns-else-eq-clause-none : goal.returns-else-eq-clause-none
returns-else-eq-clause-none c moment mark = elim (cases_Bool (has_place c.args.self.now.places c.args.owner.now moment mark)) [
  | inr none ↦ none
  | inl held ↦ (let place = c.in-Some.place.now in
      let owner = c.args.owner.now in
      let start = from_start owner moment mark (c.args.self.now.whole owner moment mark held) in
      let least = c.range.ensures.in_range tt in
      let behind = subst (λ (r : List (List ℕ × (ℕ × List ℕ))). IfSome (slice_get r 0) (λ k. is_gt (by_place k (owner, (moment, mark))) ≡ false)) c.in-Some.ensures.steps
      (least.2 (owner, (moment, mark)) (start, tt) held) in
      let first = subst (λ (r : List (List ℕ × (ℕ × List ℕ))). IfSome (slice_get r 0) (IsKeyInRange by_place (Included (owner, (0, replicate 32 0))) Unbounded c.args.self.now.places)) c.in-Some.ensures.steps least.1 in
      absurd (false≢true (c.if-eq.ensures ∙ (bytes_decides place.0 owner).1 (owner_between owner place.0 (0, replicate 32 0) place.1 (moment, mark) first.0.0 behind))))
]

pub returns-in-None-clause-none : goal.returns-in-None-clause-none
returns-in-None-clause-none c moment mark = elim (cases_Bool (has_place c.args.self.now.places c.args.owner.now moment mark)) [
  | inr none ↦ none
  | inl held ↦ (let owner = c.args.owner.now in
      let start = from_start owner moment mark (c.args.self.now.whole owner moment mark held) in
      (c.range.ensures.in_range tt).5 c.in-None.ensures.steps.0 (owner, (moment, mark)) (start, tt))
]
