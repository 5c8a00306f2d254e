-- The call for an accepted token, by its entry.
use Rattle.std.proofs.Common.{◌≡◌, ℕ, ℤ, Bool, true, false, List, Option, Some, None, Ok, refl, ap, subst, ◌∙◌, codes}
use Rattle.serde_json.specs.Data.{Members}
use Rattle.jwt_text.specs.Members.{text_at, whole_at}
use Rattle.jwt_policy.specs.Settings.{Settings}
use Rattle.jwt_possession.specs.declared.once.accepted.Entry.{Entry}
use Rattle.jwt_possession.specs.declared.once.once.Once.{Once}
use Rattle.jwt_possession.specs.declared.once.once.Taken.{Taken}
use Rattle.jwt_possession.specs.declared.once.once.Times.{Times}
use Rattle.jwt_possession.specs.once.Steps.{IsTaken}
use Rattle.jwt_possession.specs.once.Accepted.{seconds, mark_in, owner_in, times_of, is_ahead, IsEntryUnless, IsEntryWith, IsEntryOf, IsTakenUnless, IsTakenWith, IsTakenFor}

taken_unless : (ahead : Bool) (policy : Settings) (claims : Members) (now : ℤ) (old : Once) (entry : Entry) (taken : Taken) (new : Once) (jti : List ℕ) (exp : ℤ)
    → IsEntryUnless ahead policy claims (Ok entry) jti exp → IsTaken old entry.mark entry.owner entry.times (seconds now) taken new
    → IsTakenUnless ahead policy claims now old (Ok taken) new jti exp
taken_unless true policy claims now old entry taken new jti exp is h = absurd cc
taken_unless false policy claims now old entry taken new jti exp is h =
    let same : entry ≡ is.0 = (let it : Ok entry ≡ Ok is.0 = is.1 in cc) in
    let mark : entry.mark ≡ mark_in claims jti = ap (λ (e : Entry). e.mark) same ∙ is.2 in
    let owner : entry.owner ≡ owner_in claims = ap (λ (e : Entry). e.owner) same ∙ is.3 in
    let times : entry.times ≡ times_of policy claims exp = ap (λ (e : Entry). e.times) same ∙ is.4 in (
      taken,
      refl,
      subst (λ (t : Times). IsTaken old (mark_in claims jti) (owner_in claims) t (seconds now) taken new) times
          (subst (λ (o : Option (List ℕ)). IsTaken old (mark_in claims jti) o entry.times (seconds now) taken new) owner
          (subst (λ (m : List ℕ). IsTaken old m entry.owner entry.times (seconds now) taken new) mark h)),
    )

taken_with : (policy : Settings) (claims : Members) (now : ℤ) (old : Once) (entry : Entry) (taken : Taken) (new : Once) (jti : Option (List ℕ)) (exp : Option ℤ)
    → IsEntryWith policy claims now (Ok entry) jti exp → IsTaken old entry.mark entry.owner entry.times (seconds now) taken new
    → IsTakenWith policy claims now old (Ok taken) new jti exp
taken_with policy claims now old entry taken new None exp is h = absurd cc
taken_with policy claims now old entry taken new (Some jti) None is h = absurd cc
taken_with policy claims now old entry taken new (Some jti) (Some exp) is h = taken_unless (is_ahead policy claims now) policy claims now old entry taken new jti exp is h

-- what takes the mark, owner and times of the entry of these claims is the call for them
pub taken_for : (policy : Settings) (claims : Members) (now : ℤ) (old : Once) (entry : Entry) (taken : Taken) (new : Once)
    → IsEntryOf policy claims now (Ok entry) → IsTaken old entry.mark entry.owner entry.times (seconds now) taken new → IsTakenFor policy claims now old (Ok taken) new
taken_for policy claims now old entry taken new is h =
    taken_with policy claims now old entry taken new (text_at (codes "jti") claims) (whole_at (codes "exp") claims) is h
