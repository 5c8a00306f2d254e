use Rattle.std.proofs.Common.{◌≡◌, ℕ, refl, inl, inr, sym, ◌∙◌, subst, arith}
use Rattle.std.proofs.lemmas.Bool.{true≢false, false≢true}
use Rattle.jwt_possession.specs.declared.once.once.Taken.TheVariants.{New, Full, OutOfMemory}
use Rattle.jwt_possession.specs.once.Steps.{IsOwnFull, IsHeld}
use Rattle.jwt_possession.proofs.Going.{then_goes, not_full, is_full, taken}
use Rattle.jwt_possession.proofs.once.once.Once.take_mark.Goals as goal

pub insert-requires-clause-own : goal.insert-requires-clause-own
insert-requires-clause-own c owner is = omega (arith, c.is_own_full.ensures.room c.if-is_own_full.false owner is, c.drop_dead.ensures.gone.own owner, c.drop_dead.ensures.gone.share)

pub returns-then-len-self : goal.returns-then-len-self
returns-then-len-self c =
    let old = c.args.self.now in
    let one = c.is_own_full.ensures.gone in
    let two = c.drop_dead.ensures.gone in
    let gone = then_goes _ c.is_own_full.new.self c.drop_dead.new.self one two in
    let fresh : IsHeld old c.args.mark → ⊥ = λ held. true≢false (sym (c.holds.ensures.1 held) ∙ c.if-holds.false) in
    taken old _ c.drop_dead.new.self c.drop_dead.new.self c.args.mark c.args.owner c.args.times c.args.now Full (λ q. refl) c.max-self.ensures c.max-self-2.ensures refl refl refl refl gone
    refl refl refl refl refl refl fresh (λ q. inl refl) (λ e. cc) (
      λ late. true≢false (sym (c.is_late.ensures.1 (elim late [
        | inl early ↦ inl early
        | inr rest ↦ inr (elim rest [
          | inl before ↦ inl before
          | inr passed ↦ inr (omega (arith, gone.latest, passed))
        ])
      ])) ∙ c.if-is_late.false),
      fresh,
      λ own. true≢false (sym (c.is_own_full.ensures.full.1 (subst (λ (y : ℕ). IsOwnFull old c.args.owner c.max-self.result y) gone.span (subst (λ (x : ℕ). IsOwnFull old c.args.owner x c.drop_dead.new.self.span) gone.latest own))) ∙ c.if-is_own_full.false),
      elim c.drop_dead.ensures.room [
        | inl room ↦ absurd (omega (arith, room, c.if-len-self.true, c.len.ensures))
        | inr full ↦ is_full old _ c.is_own_full.new.self c.drop_dead.new.self (λ q. refl) refl refl one two c.drop_dead.new.self.latest c.drop_dead.new.self.span gone.latest gone.span old.few full
      ],
    )

pub returns-in-Ok : goal.returns-in-Ok
returns-in-Ok c =
    let old = c.args.self.now in
    let new = c.insert.new.self in
    let one = c.is_own_full.ensures.gone in
    let two = c.drop_dead.ensures.gone in
    let gone = then_goes _ c.is_own_full.new.self c.drop_dead.new.self one two in
    let at : new.latest ≡ c.max-self.result = c.insert.ensures.latest ∙ gone.latest in
    let long : new.span ≡ c.max-self-2.result = c.insert.ensures.span ∙ gone.span in
    let fresh : IsHeld old c.args.mark → ⊥ = λ held. true≢false (sym (c.holds.ensures.1 held) ∙ c.if-holds.false) in
    taken old _ c.drop_dead.new.self new c.args.mark c.args.owner c.args.times c.args.now New (λ q. refl) c.max-self.ensures c.max-self-2.ensures refl refl refl refl gone
    c.insert.ensures.latest c.insert.ensures.span c.insert.ensures.horizon c.insert.ensures.opened c.insert.ensures.most c.insert.ensures.share fresh (λ q. elim (c.in-Ok.ensures.others q) [
      | inl e ↦ inl e
      | inr e ↦ inr (refl, e.1)
    ]) (λ e. c.in-Ok.ensures.added) (
      λ late. true≢false (sym (c.is_late.ensures.1 (elim late [
        | inl early ↦ inl early
        | inr rest ↦ inr (elim rest [
          | inl before ↦ inl before
          | inr passed ↦ inr (omega (arith, at, passed))
        ])
      ])) ∙ c.if-is_late.false),
      fresh,
      λ own. true≢false (sym (c.is_own_full.ensures.full.1 (subst (λ (y : ℕ). IsOwnFull old c.args.owner c.max-self.result y) long (subst (λ (x : ℕ). IsOwnFull old c.args.owner x new.span) at own))) ∙ c.if-is_own_full.false),
      λ full. not_full old _ c.is_own_full.new.self c.drop_dead.new.self (λ q. refl) refl refl one two new.latest new.span at long (omega (arith, c.if-len-self.false, c.len.ensures)) full,
    )

pub returns-in-Err : goal.returns-in-Err
returns-in-Err c =
    let old = c.args.self.now in
    let new = c.insert.new.self in
    let one = c.is_own_full.ensures.gone in
    let two = c.drop_dead.ensures.gone in
    let gone = then_goes _ c.is_own_full.new.self c.drop_dead.new.self one two in
    let at : new.latest ≡ c.max-self.result = c.insert.ensures.latest ∙ gone.latest in
    let long : new.span ≡ c.max-self-2.result = c.insert.ensures.span ∙ gone.span in
    let fresh : IsHeld old c.args.mark → ⊥ = λ held. true≢false (sym (c.holds.ensures.1 held) ∙ c.if-holds.false) in
    taken old _ c.drop_dead.new.self new c.args.mark c.args.owner c.args.times c.args.now OutOfMemory (λ q. refl) c.max-self.ensures c.max-self-2.ensures refl refl refl refl gone
    c.insert.ensures.latest c.insert.ensures.span c.insert.ensures.horizon c.insert.ensures.opened c.insert.ensures.most c.insert.ensures.share fresh (λ q. elim (c.in-Err.ensures.others q) [
      | inl e ↦ inl e
      | inr e ↦ absurd (false≢true e.0)
    ]) (λ e. cc) (
      λ late. true≢false (sym (c.is_late.ensures.1 (elim late [
        | inl early ↦ inl early
        | inr rest ↦ inr (elim rest [
          | inl before ↦ inl before
          | inr passed ↦ inr (omega (arith, at, passed))
        ])
      ])) ∙ c.if-is_late.false),
      fresh,
      λ own. true≢false (sym (c.is_own_full.ensures.full.1 (subst (λ (y : ℕ). IsOwnFull old c.args.owner c.max-self.result y) long (subst (λ (x : ℕ). IsOwnFull old c.args.owner x new.span) at own))) ∙ c.if-is_own_full.false),
      λ full. not_full old _ c.is_own_full.new.self c.drop_dead.new.self (λ q. refl) refl refl one two new.latest new.span at long (omega (arith, c.if-len-self.false, c.len.ensures)) full,
    )
