-- A request is let through exactly where it may be.
use Rattle.std.proofs.Common.{◌≡◌, ◌≢◌, ◌≤◌, ◌⊎◌, ◌∙◌, ◌↔◌, ℕ, List, Option, None, Some, Ok, refl, sym, ap, subst, inl, inr, arith}
use Rattle.serde_json.specs.Data.{Members}
use Rattle.jwt_mac.specs.Verifying.{Meaning}
use Rattle.jwt_possession.specs.declared.once.accepted.Entry.{Entry}
use Rattle.jwt_possession.specs.declared.once.once.Once.{Once}
use Rattle.jwt_possession.specs.declared.once.once.Taken.{Taken}
use Rattle.jwt_possession.specs.declared.once.once.Taken.TheVariants as answered
use Rattle.jwt_possession.specs.declared.once.once.Times.{Times}
use Rattle.jwt_possession.specs.once.Accepted.{seconds}
use Rattle.jwt_possession.specs.once.Steps.{IsTaken, IsAnswer, IsLate, IsHeld as IsHeldIn, IsOwnFull, IsFullOfLive}
use Rattle.jwt_service.specs.declared.books.Books.{Books}
use Rattle.jwt_service.specs.declared.call.Call.{Call}
use Rattle.jwt_service.specs.declared.service.Service.{Service}
use Rattle.jwt_service.specs.declared.admission.Passed.{Passed}
use Rattle.jwt_service.specs.declared.admission.Admission.{Admission}
use Rattle.jwt_service.specs.declared.admission.Admission.TheVariants.{Admitted, ProofNotNew, TokenNotNew}
use Rattle.jwt_service.specs.declared.admission.Admission.TheVariants as answer
use Rattle.jwt_service.specs.Proving.{IsHeld}
use Rattle.jwt_service.specs.Taking.{IsTokenEntry, IsEntryTaken}
use Rattle.jwt_service.specs.Admission.{Subject, IsPassed, IsAdmitted, IsAdmission}
use Rattle.jwt_service.specs.Laws.{HadMemory}
use Rattle.jwt_service.proofs.Below.{Below}
use Rattle.jwt_service.proofs.OneEntry.{one_token_entry}
use Rattle.jwt_service.proofs.OneRequest.{same_subject, same_held, subject_in, accepted_in, passed_is_not_refused}

-- ---- a memory has one answer

same_greatest : (old told a b : ℕ) → old ≤ a → told ≤ a → (a ≡ old) ⊎ (a ≡ told) → old ≤ b → told ≤ b → (b ≡ old) ⊎ (b ≡ told) → b ≡ a
same_greatest old told a b s t (inl is) s' t' (inl is') = omega (arith, is, is', s, t, s', t')
same_greatest old told a b s t (inl is) s' t' (inr is') = omega (arith, is, is', s, t, s', t')
same_greatest old told a b s t (inr is) s' t' (inl is') = omega (arith, is, is', s, t, s', t')
same_greatest old told a b s t (inr is) s' t' (inr is') = omega (arith, is, is', s, t, s', t')

new_alone : (late held own full : Type 0) (b : Taken) → IsAnswer answered.New late held own full → IsAnswer b late held own full → b ≢ answered.OutOfMemory → b ≡ answered.New
new_alone late held own full answered.New one two memory = refl
new_alone late held own full answered.Late one two memory = absurd (one.0 two)
new_alone late held own full answered.Seen one two memory = absurd (one.1 two.1)
new_alone late held own full answered.OwnFull one two memory = absurd (one.2 two.2)
new_alone late held own full answered.Full one two memory = absurd (one.3 two.3)
new_alone late held own full answered.OutOfMemory one two memory = absurd (memory refl)

one_taken : (old : Once) (mark : List ℕ) (owner : Option (List ℕ)) (times : Times) (now : ℕ) (b : Taken) (new other : Once)
    → IsTaken old mark owner times now answered.New new → IsTaken old mark owner times now b other → b ≢ answered.OutOfMemory → b ≡ answered.New
one_taken old mark owner times now b new other one two memory =
    let latest = same_greatest old.latest now new.latest other.latest one.since one.told one.least two.since two.told two.least in
    let span = same_greatest old.span times.grace new.span other.span one.longer one.long one.longest two.longer two.long two.longest in
    let here = subst (λ (l : ℕ). IsAnswer b (IsLate old l times) (IsHeldIn old mark) (IsOwnFull old owner l other.span) (IsFullOfLive old l other.span)) latest two.answers in
    let there = subst (λ (s : ℕ). IsAnswer b (IsLate old new.latest times) (IsHeldIn old mark) (IsOwnFull old owner new.latest s) (IsFullOfLive old new.latest s)) span here in
    new_alone (IsLate old new.latest times) (IsHeldIn old mark) (IsOwnFull old owner new.latest new.span) (IsFullOfLive old new.latest new.span) b one.answers there memory

entry_new : (entry : Option Entry) (call : Call) (old new other : Once) (b : Taken)
    → IsEntryTaken entry call old answered.New new → IsEntryTaken entry call old b other → b ≢ answered.OutOfMemory → b ≡ answered.New
entry_new None call old new other b one two memory = two.0
entry_new (Some entry) call old new other b one two memory = one_taken old entry.mark entry.owner entry.times (seconds call.moment) b new other one two memory

-- ---- what passed is one

pub record IsSamePassed (p q : Passed) : Type 0 where
  pub claims : q.claims ≡ p.claims
  pub proof : q.proof ≡ p.proof
  pub token : q.token ≡ p.token

one_passed : Below → (service : Service) (verifiers : List Meaning) (call : Call) (p q : Passed) → IsPassed service verifiers call p → IsPassed service verifiers call q → IsSamePassed p q
one_passed below service verifiers call p q h g =
    let same = same_subject below service verifiers call (subject_in p h.token h.alg) (subject_in q g.token g.alg) (accepted_in service verifiers call p h) (accepted_in service verifiers call q g) in
    let held = subst (λ (s : Subject). IsHeld service verifiers call s.scheme s.token s.claims g.possession) same g.before.before.held in
    let pair = same_held below service verifiers call p.scheme h.token p.claims h.possession g.possession h.before.before.held held in
    let there = subst (λ (s : Subject). IsTokenEntry service s.issuer call s.claims (Ok q.token)) same g.token_entry in
    let entries : Ok q.token ≡ Ok p.token = one_token_entry service.once p.issuer call p.claims (Ok p.token) (Ok q.token) h.token_entry there in
    record { claims = ap (λ (s : Subject). s.claims) same; proof = pair.entry p.proof q.proof h.proof_entry g.proof_entry; token = cc }

-- ---- every answer

may_be : Below → (service : Service) (verifiers : List Meaning) (call : Call) (old new after : Books) (answer : Admission) (claims : Members)
    → IsAdmission service verifiers call old answer new → HadMemory answer → IsAdmitted service verifiers call old claims after → answer ≡ Admitted claims
may_be below service verifiers call old new after (Admitted others) claims is memory may =
    let same = one_passed below service verifiers call may.passed is.passed may.holds is.holds in
    ap (λ (m : Members). Admitted m) (is.its_claims ∙ same.claims ∙ sym may.its_claims)
may_be below service verifiers call old new after (answer.Refused refusal) claims is memory may =
    absurd (passed_is_not_refused below service verifiers call may.passed refusal may.holds memory is.0)
may_be below service verifiers call old new after (ProofNotNew None) claims is memory may = absurd is
may_be below service verifiers call old new after (ProofNotNew (Some taken)) claims is memory may =
    let same = one_passed below service verifiers call may.passed is.passed may.holds is.holds in
    let there = subst (λ (e : Option Entry). IsEntryTaken e call old.proofs taken new.proofs) same.proof is.proof in
    absurd (is.is_old (entry_new may.passed.proof call old.proofs after.proofs new.proofs taken may.proof there (λ e. memory (ap (λ (t : Taken). Some t) e))))
may_be below service verifiers call old new after (TokenNotNew scheme None) claims is memory may = absurd is
may_be below service verifiers call old new after (TokenNotNew scheme (Some taken)) claims is memory may =
    let same = one_passed below service verifiers call may.passed is.passed may.holds is.holds in
    let there = subst (λ (e : Option Entry). IsEntryTaken e call old.tokens taken new.tokens) same.token is.token in
    absurd (is.is_old (entry_new may.passed.token call old.tokens after.tokens new.tokens taken may.token there (λ e. memory (ap (λ (t : Taken). Some t) e))))

pub admits_exactly : Below → (service : Service) (verifiers : List Meaning) (call : Call) (old new : Books) (answer : Admission) (claims : Members)
    → IsAdmission service verifiers call old answer new → HadMemory answer → (answer ≡ Admitted claims) ↔ ((after : Books) × IsAdmitted service verifiers call old claims after)
admits_exactly below service verifiers call old new answer claims is memory = (
  λ e. (new, subst (λ (a : Admission). IsAdmission service verifiers call old a new) e is),
  λ may. may_be below service verifiers call old new may.0 answer claims is memory may.1,
)
