use Rattle.std.proofs.Common.{◌<◌, ◌+◌, List, ℕ, Option, Some, ap, refl, sym, subst, ◌∙◌, inl, inr, arith}
use Rattle.std.proofs.lemmas.Bool.{true≢false, cases_lt}
use Rattle.std.proofs.lemmas.Option.{same_Some}
use Rattle.jwt_possession.specs.once.Steps.{IsOwnFull, share_of}
use Rattle.jwt_possession.proofs.Numbers.{of_itself}
use Rattle.jwt_possession.proofs.OncePlaces.{made, it_of}
use Rattle.jwt_possession.proofs.once.once.Once.is_own_full.Goals as goal

pub returns-in_default-earliest-clause-full : goal.returns-in_default-earliest-clause-full
returns-in_default-earliest-clause-full c =
    let once = c.args.self.now in
    let owner = c.in-Some.owner in (
      λ _. subst (λ (o : Option (List ℕ)). IsOwnFull once o once.latest once.span) (sym c.in-Some.is) (
        omega (arith, once.shared owner, once.counted owner, c.number.ensures, c.if-number-self.false),
        λ mark its held of. absurd (true≢false (sym (once.owned owner its.moment mark (held ∙ ap Some (made its its.moment owner refl of))) ∙ c.in_default-earliest.ensures.none its.moment mark)),
      ),
      λ _. refl,
    )

pub returns-then-not-has_passed-clause-full : goal.returns-then-not-has_passed-clause-full
returns-then-not-has_passed-clause-full c =
    let once = c.args.self.now in
    let owner = c.in-Some.owner in
    let turn = c.in-Some-earliest.turn in (
      λ _. subst (λ (o : Option (List ℕ)). IsOwnFull once o once.latest once.span) (sym c.in-Some.is) (
        omega (arith, once.shared owner, once.counted owner, c.number.ensures, c.if-number-self.false),
        λ mark its held of. elim (cases_lt (turn.0 + once.span) once.latest) [
          | inl lt ↦ absurd (true≢false (sym (c.has_passed.ensures.1 lt) ∙ c.if-not-has_passed.true))
          | inr le ↦ omega (arith, le, c.in-Some-earliest.ensures.least its.moment mark (once.owned owner its.moment mark (held ∙ ap Some (made its its.moment owner refl of))))
        ],
      ),
      λ _. refl,
    )

pub returns-clause-room : goal.returns-clause-room
returns-clause-room c _ whose is =
    let once = c.args.self.now in
    let owner = c.in-Some.owner in
    let turn = c.in-Some-earliest.turn in
    let own = c.let_go.ensures.own (it_of turn.0 owner) (once.placed owner turn.0 turn.1 c.in-Some-earliest.ensures.held) owner in
    subst (λ (w : List ℕ). share_of w c.let_go.new.self < c.let_go.new.self.share) (same_Some owner whose (sym c.in-Some.is ∙ is))
    (omega (arith, own, of_itself (it_of turn.0 owner) owner refl, once.shared owner, c.let_go.ensures.gone.share))
