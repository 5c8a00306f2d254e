-- What is let go, and what a call that lets go and takes does.
use Rattle.std.proofs.Common.{◌≡◌, ◌≤◌, ◌<◌, ◌+◌, ◌⊎◌, ℕ, cond, max, List, Option, Some, None, inl, inr, sym, ap, refl, subst, ◌∙◌, arith}
use Rattle.std.proofs.lemmas.Option.{none-some, same_Some}
use Rattle.jwt_possession.specs.declared.once.once.Once.{Once}
use Rattle.jwt_possession.specs.declared.once.once.Taken.{Taken}
use Rattle.jwt_possession.specs.declared.once.once.Taken.TheVariants.{New}
use Rattle.jwt_possession.specs.declared.once.once.Times.{Times}
use Rattle.jwt_possession.specs.declared.once.table.Holding.{Holding}
use Rattle.jwt_possession.specs.once.Tables.{is_of}
use Rattle.jwt_possession.specs.once.Steps.{held_of, size_of, share_of, IsHeld, IsLate, IsFullOfLive, IsOwnFull, IsAnswer, GoesOn, holding, IsTaken, LetsGo}
use Rattle.jwt_possession.proofs.Queue.{greatest}

abbrev its_moment : Holding → ℕ
its_moment it = it.moment

-- nothing is let go
pub stays : (once : Once) → LetsGo once once
stays once = record {
  opened = refl;
  latest = refl;
  span = refl;
  most = refl;
  share = refl;
  horizon = (omega arith, inl refl);
  lost = λ mark its h. inl h;
  held = λ mark its h. h;
  size = inl refl;
  fewer = omega arith;
  own = λ owner. omega arith;
}

-- what is held by this mark is let go
module _ (old new : Once) (mark : List ℕ) (it : Holding) where
  goes : (new.span ≡ old.span) → (new.latest ≡ old.latest) → it.moment + old.span < old.latest → new.horizon ≡ max old.horizon (it.moment + 1) → GoesOn old new
  goes span latest passed horizon = let g = greatest old.horizon (it.moment + 1) new.horizon horizon in (
    g.0,
    elim g.2 [
      | inl e ↦ inl e
      | inr e ↦ inr (omega (arith, e, passed, span, latest))
    ],
  )

  pub lets_go : held_of old mark ≡ Some it → it.moment + old.span < old.latest → held_of new mark ≡ None
      → ((q : List ℕ) → (held_of new q ≡ held_of old q) ⊎ (q ≡ mark)) → size_of new + 1 ≡ size_of old
      → ((owner : List ℕ) → share_of owner new + cond (is_of owner it) 1 0 ≡ share_of owner old)
      → new.opened ≡ old.opened → new.latest ≡ old.latest → new.span ≡ old.span → new.most ≡ old.most → new.share ≡ old.share
      → new.horizon ≡ max old.horizon (it.moment + 1) → LetsGo old new
  lets_go is passed gone others size numbers opened latest span most share horizon = record {
    opened = opened;
    latest = latest;
    span = span;
    most = most;
    share = share;
    horizon = goes span latest passed horizon;
    lost = λ q its h. elim (others q) [
      | inl e ↦ inl (e ∙ h)
      | inr e ↦ (let same = ap its_moment (same_Some it its (sym is ∙ ap (held_of old) (sym e) ∙ h)) in
          inr (omega (arith, size), omega (arith, same, (greatest old.horizon (it.moment + 1) new.horizon horizon).1), omega (arith, same, passed)))
    ];
    held = λ q its h. elim (others q) [
      | inl e ↦ sym e ∙ h
      | inr e ↦ absurd (none-some its (sym gone ∙ ap (held_of new) (sym e) ∙ h))
    ];
    size = inr (mark, it, is, passed);
    fewer = omega (arith, size);
    own = λ owner. omega (arith, numbers owner);
  }

-- one after the other
pub then_goes : (a b c : Once) → LetsGo a b → LetsGo b c → LetsGo a c
then_goes a b c p q = record {
  opened = q.opened ∙ p.opened;
  latest = q.latest ∙ p.latest;
  span = q.span ∙ p.span;
  most = q.most ∙ p.most;
  share = q.share ∙ p.share;
  horizon = (
    omega (arith, p.horizon.0, q.horizon.0),
    elim q.horizon.1 [
      | inl e ↦ elim p.horizon.1 [
        | inl f ↦ inl (e ∙ f)
        | inr le ↦ inr (omega (arith, e, le, q.span, q.latest))
      ]
      | inr le ↦ inr le
    ],
  );
  lost = λ mark its h. elim (p.lost mark its h) [
    | inl there ↦ elim (q.lost mark its there) [
      | inl still ↦ inl still
      | inr g ↦ inr (omega (arith, g.0, p.fewer), g.1, omega (arith, g.2, p.span, p.latest))
    ]
    | inr g ↦ inr (omega (arith, g.0, q.fewer), omega (arith, g.1, q.horizon.0), g.2)
  ];
  held = λ mark its h. p.held mark its (q.held mark its h);
  size = elim q.size [
    | inl e ↦ elim p.size [
      | inl f ↦ inl (e ∙ f)
      | inr x ↦ inr x
    ]
    | inr x ↦ inr (x.0, x.1, p.held x.0 x.1 x.2, omega (arith, x.3, p.span, p.latest))
  ];
  fewer = omega (arith, p.fewer, q.fewer);
  own = λ owner. omega (arith, p.own owner, q.own owner);
}

-- where all that is held is live, nothing is let go
pub all_live : (old new : Once) → LetsGo old new → ((mark : List ℕ) (its : Holding) → held_of old mark ≡ Some its → old.latest ≤ its.moment + old.span) → size_of new ≡ size_of old
all_live old new gone live = elim gone.size [
  | inl e ↦ e
  | inr x ↦ absurd (omega (arith, live x.0 x.1 x.2, x.3))
]

-- where as much is held as before, and all of it is live, so was it before
pub was_live : (old new : Once) → LetsGo old new → size_of new ≡ size_of old
    → ((mark : List ℕ) (its : Holding) → held_of new mark ≡ Some its → old.latest ≤ its.moment + old.span)
    → (mark : List ℕ) (its : Holding) → held_of old mark ≡ Some its → old.latest ≤ its.moment + old.span
was_live old new gone same live mark its h = elim (gone.lost mark its h) [
  | inl there ↦ live mark its there
  | inr g ↦ absurd (omega (arith, g.0, same))
]

-- A call: the moments are told, then something is let go, then the mark may be taken.
module _ (old told mid new : Once) (mark : List ℕ) (owner : Option (List ℕ)) (times : Times) (now : ℕ) (answer : Taken) where
  pub taken : ((q : List ℕ) → held_of told q ≡ held_of old q) → told.latest ≡ max old.latest now → told.span ≡ max old.span times.grace → told.horizon ≡ old.horizon
      → told.opened ≡ old.opened → told.most ≡ old.most → told.share ≡ old.share → LetsGo told mid
      → new.latest ≡ mid.latest → new.span ≡ mid.span → new.horizon ≡ mid.horizon → new.opened ≡ mid.opened → new.most ≡ mid.most → new.share ≡ mid.share
      → (IsHeld old mark → ⊥) → ((q : List ℕ) → (held_of new q ≡ held_of mid q) ⊎ ((answer ≡ New) × (q ≡ mark)))
      → (answer ≡ New → held_of new mark ≡ Some (holding times owner))
      → IsAnswer answer (IsLate old new.latest times) (IsHeld old mark) (IsOwnFull old owner new.latest new.span) (IsFullOfLive old new.latest new.span)
      → IsTaken old mark owner times now answer new
  taken same latest span horizon opened most share gone latest_2 span_2 horizon_2 opened_2 most_2 share_2 fresh others added answers =
      let g = greatest old.latest now told.latest latest in
      let s = greatest old.span times.grace told.span span in
      let at : new.latest ≡ told.latest = latest_2 ∙ gone.latest in
      let long : new.span ≡ told.span = span_2 ∙ gone.span in
      record {
        since = omega (arith, at, g.0);
        told = omega (arith, at, g.1);
        least = elim g.2 [
          | inl e ↦ inl (at ∙ e)
          | inr e ↦ inr (at ∙ e)
        ];
        longer = omega (arith, long, s.0);
        long = omega (arith, long, s.1);
        longest = elim s.2 [
          | inl e ↦ inl (long ∙ e)
          | inr e ↦ inr (long ∙ e)
        ];
        answers = answers;
        added = added;
        kept = λ q its h le. elim (gone.lost q its (same q ∙ h)) [
          | inl there ↦ elim (others q) [
            | inl e ↦ e ∙ there
            | inr e ↦ absurd (fresh (its, subst (λ x. held_of old x ≡ Some its) e.1 h))
          ]
          | inr g ↦ absurd (omega (arith, g.2, le, at, long))
        ];
        known = λ q its h. elim (gone.lost q its (same q ∙ h)) [
          | inl there ↦ elim (others q) [
            | inl e ↦ inl (e ∙ there)
            | inr e ↦ absurd (fresh (its, subst (λ x. held_of old x ≡ Some its) e.1 h))
          ]
          | inr g ↦ inr (omega (arith, g.1, horizon_2))
        ];
        horizon = (
          omega (arith, gone.horizon.0, horizon, horizon_2),
          elim gone.horizon.1 [
            | inl e ↦ inl (horizon_2 ∙ e ∙ horizon)
            | inr le ↦ inr (omega (arith, le, horizon_2, latest_2, span_2))
          ],
        );
        no_more = λ q its h. elim (others q) [
          | inl e ↦ inl (sym (same q) ∙ gone.held q its (sym e ∙ h))
          | inr e ↦ inr (e.0, e.1, same_Some its (holding times owner) (sym h ∙ ap (held_of new) e.1 ∙ added e.0))
        ];
        opened = opened_2 ∙ gone.opened ∙ opened;
        most = most_2 ∙ gone.most ∙ most;
        share = share_2 ∙ gone.share ∙ share;
      }

-- Where two goings leave room, it wasn't full of what is live; and where the first leaves it full of what is live, so it was.
module _ (old told a b : Once) (same : (q : List ℕ) → held_of told q ≡ held_of old q) (size : size_of told ≡ size_of old) (most : told.most ≡ old.most)
    (one : LetsGo told a) (two : LetsGo a b) (latest span : ℕ) (at : latest ≡ told.latest) (long : span ≡ told.span) where
  pub not_full : size_of b < b.most → IsFullOfLive old latest span → ⊥
  not_full room full =
      let first = all_live told a one (λ mark its h. omega (arith, full.1 mark its (sym (same mark) ∙ h), at, long)) in
      let second = all_live a b two (λ mark its h. omega (arith, full.1 mark its (sym (same mark) ∙ one.held mark its h), at, long, one.latest, one.span)) in
      omega (arith, first, second, size, most, full.0, room, one.most, two.most)

  pub is_full : size_of old ≤ old.most → IsFullOfLive a a.latest a.span → IsFullOfLive old latest span
  is_full few full =
      let all : size_of a ≡ size_of told = omega (arith, one.fewer, full.0, one.most, most, size, few) in
      let live = was_live told a one all (λ mark its h. omega (arith, full.1 mark its h, one.latest, one.span)) in
      (omega (arith, all, full.0, one.most, most, size), λ mark its h. omega (arith, live mark its (same mark ∙ h), at, long))
