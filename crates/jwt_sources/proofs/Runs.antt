-- What any calls come to.
use Rattle.std.proofs.Common.{◌≡◌, ◌≢◌, ◌⊎◌, ◌+◌, ◌-◌, ◌==◌, if◌then◌else◌, ℕ, Bool, true, false, List, [], ◌∷◌, ◌++◌, Option, None, Some, refl, inl, inr, ap, sym, ◌∙◌, subst, arith, eq-eqb}
use Rattle.std.proofs.lemmas.Bool.{cases_lt, eqb-true}
use Rattle.std.specs.List.{slice_get}
use Rattle.jwt_request.specs.declared.renewal.asker.Asker.{Asker}
use Rattle.jwt_request.specs.declared.renewal.asker.Asker.TheVariants.{Token, Refused, Owner, Waited}
use Rattle.jwt_request.specs.declared.renewal.answer.Fetch.{Fetch}
use Rattle.jwt_request.specs.declared.renewal.answer.Fetch.TheVariants.{Nothing as NoFetch, Begin, UnderWay}
use Rattle.jwt_request.specs.renewal.History.{Event, passed, failed, moment}
use Rattle.jwt_request.specs.renewal.Rules.{with_end, with_fetch, with_waiting}
use Rattle.jwt_request.specs.renewal.Runs.{asked}
use Rattle.jwt_request.specs.renewal.Standing as Renewed
use Rattle.jwt_sources.specs.declared.place.Place.{Place}
use Rattle.jwt_sources.specs.declared.source.Source.{Source}
use Rattle.jwt_sources.specs.declared.source.Came.{Came}
use Rattle.jwt_sources.specs.declared.source.Came.TheVariants.{Taken, Next, Failed, Late as TooLate}
use Rattle.jwt_sources.specs.declared.sources.Sources.{Sources}
use Rattle.jwt_sources.specs.declared.sources.Outcome.TheVariants.{Ended, Late}
use Rattle.jwt_sources.specs.declared.step.Keys.{Keys}
use Rattle.jwt_sources.specs.declared.step.Step.{Step}
use Rattle.jwt_sources.specs.Places.{named}
use Rattle.jwt_sources.specs.Steps.{ticket_of, IsBegun, with_answer}
use Rattle.jwt_sources.specs.Changes.{IsTold, IsLetGo, IsHandedOut, IsEnded}
use Rattle.jwt_sources.specs.Tickets.{Entry, handed, answered, IsOpen, WasAnswered, AllBelow}
use Rattle.jwt_sources.specs.Standing.{Stands, IsAt, OthersStay}
use Rattle.jwt_sources.specs.Runs.{Call, tell, let_go, ask, wait, next, came, AreCalls, log_after, counted, begun_at, passed_at, heard_at}
use Rattle.jwt_sources.proofs.Each.{each_at}
use Rattle.jwt_sources.proofs.Lists.{one_at, appended}
use Rattle.jwt_sources.proofs.Logs.{below_more, open_below, handed_ticket, keys_after}

same_or_not : (i at : ℕ) → (i ≡ at) ⊎ (i ≢ at)
same_or_not i at =
    elim (cases_lt i at) [
      | inl below ↦ inr (omega (arith, below))
      | inr above ↦ elim (cases_lt at i) [ inl over ↦ inr (omega (arith, over)) | inr under ↦ inl (omega (arith, above, under)) ]
    ]

-- what stands at a place after one place was changed
pub which : {K : Type 0} (at : ℕ) (old new : Sources K) (t : Source K) → OthersStay at old new → IsAt new at t → (i : ℕ) (x : Source K) → IsAt new i x → ((i ≡ at) × (x ≡ t)) ⊎ ((i ≢ at) × IsAt old i x)
which at old new t others here i x is =
    elim (same_or_not i at) [
      | inl same ↦ inl (same, one_at new.sources.items at x t (subst (λ n. IsAt new n x) same is) here)
      | inr apart ↦ inr (apart, sym (others i apart) ∙ is)
    ]

begun_ticket : (fetch : Fetch) (place : Place) (old new : Step) (u : ℕ) → IsBegun fetch place old new → ticket_of new ≡ Some u → ticket_of old ≡ Some u
begun_ticket NoFetch place old new u same e = ap ticket_of (sym same) ∙ e
begun_ticket (Begin ticket) place old new u same e = let never : None ≡ Some u = ap ticket_of (sym same) ∙ e in cc
begun_ticket (UnderWay ticket left) place old new u same e = ap ticket_of (sym same) ∙ e

-- where a source waits for nothing new, and its keys stay
record Was {K : Type 0} (old : Sources K) (i : ℕ) (new : Source K) : Type 0 where
  pub source : Source K
  pub at : IsAt old i source
  pub step : (u : ℕ) → ticket_of new.step ≡ Some u → ticket_of source.step ≡ Some u
  pub keys : new.keys ≡ source.keys
  pub place : new.place ≡ source.place

all_stand : {K : Type 0} (old new : Sources K) (log : List (Entry K)) → new.tickets ≡ old.tickets → ((i : ℕ) (t : Source K) → IsAt new i t → Was old i t) → Stands old log
    → Stands new log
all_stand old new log tickets was st = record {
  run = st.run;
  below = subst (λ n. AllBelow n log) (sym tickets) st.below;
  waits = λ i t u here waits.
      let w = was i t here in
      subst (λ p. IsOpen (named p) u log) (sym w.place) (st.waits i w.source u w.at (w.step u waits));
  apart = λ i j u s t here there one two.
      let a = was i s here in
      let b = was j t there in
      st.apart i j u a.source b.source a.at b.at (a.step u one) (b.step u two);
  keys = λ i t k here has.
      let w = was i t here in
      subst (λ p. WasAnswered (named p) k.ticket (Some k.prepared) log) (sym w.place) (st.keys i w.source k w.at (sym w.keys ∙ has));
}

-- the same of one source
kept_stands : {K : Type 0} (old new : Sources K) (at : ℕ) (s t : Source K) (log : List (Entry K)) → IsAt old at s → IsAt new at t → OthersStay at old new → new.tickets ≡ old.tickets
    → ((u : ℕ) → ticket_of t.step ≡ Some u → ticket_of s.step ≡ Some u) → t.keys ≡ s.keys → t.place ≡ s.place → Stands old log → Stands new log
kept_stands old new at s t log is_s is_t others tickets step keys place st = all_stand old new log tickets (λ i x here. elim (which at old new t others is_t i x here) [
  | inl same ↦ record {
    source = s;
    at = subst (λ n. IsAt old n s) (sym same.0) is_s;
    step = λ u waits. step u (subst (λ y. ticket_of y.step ≡ Some u) same.1 waits);
    keys = ap (λ y. y.keys) same.1 ∙ keys;
    place = ap (λ y. y.place) same.1 ∙ place;
  }
  | inr other ↦ record { source = x; at = other.1; step = λ u waits. waits; keys = refl; place = refl }
]) st

-- where one source waits for nothing, and its keys came with an answer for its place
pub other_stands : {K : Type 0} (old new : Sources K) (at : ℕ) (t : Source K) (log : List (Entry K)) → IsAt new at t → OthersStay at old new → new.tickets ≡ old.tickets
    → ticket_of t.step ≡ None → ((k : Keys K) → t.keys ≡ Some k → WasAnswered (named t.place) k.ticket (Some k.prepared) log) → Stands old log → Stands new log
other_stands old new at t log is_t others tickets step keys st = record {
  run = st.run;
  below = subst (λ n. AllBelow n log) (sym tickets) st.below;
  waits = λ i x u here waits. elim (which at old new t others is_t i x here) [
    | inl same ↦ let never : None ≡ Some u = sym step ∙ subst (λ y. ticket_of y.step ≡ Some u) same.1 waits in cc
    | inr other ↦ st.waits i x u other.1 waits
  ];
  apart = λ i j u x y here there one two. elim (which at old new t others is_t i x here) [
    | inl same ↦ let never : None ≡ Some u = sym step ∙ subst (λ z. ticket_of z.step ≡ Some u) same.1 one in cc
    | inr other ↦ elim (which at old new t others is_t j y there) [
      | inl same ↦ let never : None ≡ Some u = sym step ∙ subst (λ z. ticket_of z.step ≡ Some u) same.1 two in cc
      | inr other2 ↦ st.apart i j u x y other.1 other2.1 one two
    ]
  ];
  keys = λ i x k here has. elim (which at old new t others is_t i x here) [
    | inl same ↦
        subst (λ z. WasAnswered (named z.place) k.ticket (Some k.prepared) log) (sym same.1) (keys k (subst (λ z. z.keys ≡ Some k) same.1 has))
    | inr other ↦ st.keys i x k other.1 has
  ];
}

-- where a source is added that waits for nothing and has no keys
pub added_stands : {K : Type 0} (old new : Sources K) (added : Source K) (log : List (Entry K)) → new.tickets ≡ old.tickets → new.sources.items ≡ old.sources.items ++ added ∷ []
    → ticket_of added.step ≡ None → added.keys ≡ None → Stands old log → Stands new log
added_stands old new added log tickets items step keys st =
    let was : (i : ℕ) (x : _) → IsAt new i x → (x ≡ added) ⊎ IsAt old i x =
    λ i x here. appended old.sources.items i added x (subst (λ xs. slice_get xs i ≡ Some x) items here) in
    record {
      run = st.run;
      below = subst (λ n. AllBelow n log) (sym tickets) st.below;
      waits = λ i x u here waits. elim (was i x here) [
        | inl same ↦ let never : None ≡ Some u = sym step ∙ subst (λ y. ticket_of y.step ≡ Some u) same waits in cc
        | inr before ↦ st.waits i x u before waits
      ];
      apart = λ i j u x y here there one two. elim (was i x here) [
        | inl same ↦ let never : None ≡ Some u = sym step ∙ subst (λ z. ticket_of z.step ≡ Some u) same one in cc
        | inr before ↦ elim (was j y there) [
          | inl same ↦ let never : None ≡ Some u = sym step ∙ subst (λ z. ticket_of z.step ≡ Some u) same two in cc
          | inr before2 ↦ st.apart i j u x y before before2 one two
        ]
      ];
      keys = λ i x k here has. elim (was i x here) [
        | inl same ↦ let never : None ≡ Some k = sym keys ∙ subst (λ z. z.keys ≡ Some k) same has in cc
        | inr before ↦ st.keys i x k before has
      ];
    }

handed_stands : {K : Type 0} (old new : Sources K) (at : ℕ) (s t : Source K) (log : List (Entry K)) → IsAt old at s → IsAt new at t → OthersStay at old new → new.tickets ≡ old.tickets + 1
    → IsHandedOut s old.tickets t → Stands old log → Stands new (handed (named s.place) old.tickets ∷ log)
handed_stands old new at s t log is_s is_t others tickets out st =
    let before : (j : ℕ) (y : _) (u : ℕ) → IsAt old j y → ticket_of y.step ≡ Some u → u ≢ old.tickets =
    λ j y u is waits same. let less = open_below old.tickets (named y.place) u log st.below (st.waits j y u is waits) in omega (arith, less, same) in
    let at_it : (u : ℕ) (x : _) → x ≡ t → ticket_of x.step ≡ Some u → u ≡ old.tickets =
    λ u x same waits. handed_ticket s.step t.step old.tickets u out.step (subst (λ y. ticket_of y.step ≡ Some u) same waits) in
    record {
      run = (st.below, st.run);
      below = subst (λ n. AllBelow n (handed (named s.place) old.tickets ∷ log)) (sym tickets) (omega arith, below_more old.tickets (old.tickets + 1) log (omega arith) st.below);
      waits = λ i x u here waits. elim (which at old new t others is_t i x here) [
        | inl same ↦ inl (ap (λ y. named y.place) same.1 ∙ ap named out.place, at_it u x same.1 waits)
        | inr other ↦ inr (st.waits i x u other.1 waits)
      ];
      apart = λ i j u x y here there one two. elim (which at old new t others is_t i x here) [
        | inl same ↦ elim (which at old new t others is_t j y there) [
          | inl same2 ↦ same.0 ∙ sym same2.0
          | inr other2 ↦ absurd (before j y u other2.1 two (at_it u x same.1 one))
        ]
        | inr other ↦ elim (which at old new t others is_t j y there) [
          | inl same2 ↦ absurd (before i x u other.1 one (at_it u y same2.1 two))
          | inr other2 ↦ st.apart i j u x y other.1 other2.1 one two
        ]
      ];
      keys = λ i x k here has. elim (which at old new t others is_t i x here) [
        | inl same ↦
            let stood : named x.place ≡ named s.place = ap (λ y. named y.place) same.1 ∙ ap named out.place in
            subst (λ p. WasAnswered p k.ticket (Some k.prepared) log) (sym stood) (st.keys at s k is_s (sym out.keys ∙ subst (λ y. y.keys ≡ Some k) same.1 has))
        | inr other ↦ st.keys i x k other.1 has
      ];
    }

ended_stands : {K : Type 0} (old new : Sources K) (at ticket now : ℕ) (end : Came) (brought : Option K) (s t : Source K) (log : List (Entry K)) → IsAt old at s → IsAt new at t
    → OthersStay at old new → new.tickets ≡ old.tickets → IsEnded s ticket brought now end t → Stands old log → Stands new (answered (named s.place) ticket brought ∷ log)
ended_stands old new at ticket now end brought s t log is_s is_t others tickets ended st = record {
  run = (st.waits at s ticket is_s ended.waited, st.run);
  below = subst (λ n. AllBelow n log) (sym tickets) st.below;
  waits = λ i x u here waits. elim (which at old new t others is_t i x here) [
    | inl same ↦ let never : None ≡ Some u = sym ended.waits ∙ subst (λ y. ticket_of y.step ≡ Some u) same.1 waits in cc
    | inr other ↦ (
      λ is_it. other.0 (st.apart i at u x s other.1 is_s waits (subst (λ n. ticket_of s.step ≡ Some n) (sym is_it) ended.waited)),
      st.waits i x u other.1 waits,
    )
  ];
  apart = λ i j u x y here there one two. elim (which at old new t others is_t i x here) [
    | inl same ↦ let never : None ≡ Some u = sym ended.waits ∙ subst (λ z. ticket_of z.step ≡ Some u) same.1 one in cc
    | inr other ↦ elim (which at old new t others is_t j y there) [
      | inl same ↦ let never : None ≡ Some u = sym ended.waits ∙ subst (λ z. ticket_of z.step ≡ Some u) same.1 two in cc
      | inr other2 ↦ st.apart i j u x y other.1 other2.1 one two
    ]
  ];
  keys = λ i x k here has. elim (which at old new t others is_t i x here) [
    | inl same ↦
        let stood : named x.place ≡ named s.place = ap (λ y. named y.place) same.1 ∙ ap named ended.place in
        let was = keys_after end s.keys t.keys (named s.place) ticket brought k log (λ it has. st.keys at s it is_s has) ended.keys (subst (λ y. y.keys ≡ Some k) same.1 has) in
        subst (λ p. WasAnswered p k.ticket (Some k.prepared) (answered (named s.place) ticket brought ∷ log)) (sym stood) was
    | inr other ↦ inr (st.keys i x k other.1 has)
  ];
}

pub stands_after : {K : Type 0} (first last : Sources K) (calls : List (Call K)) (log : List (Entry K)) → AreCalls first calls last → Stands first log → Stands last (log_after calls log)
stands_after first last [] log run st = subst (λ s. Stands s log) (sym run) st
stands_after first last (tell now ∷ calls) log run st =
    all_stand run.0 last (log_after calls log) run.2.1 (λ i t here.
    let w = each_at (λ one other. IsTold one now other) (slice_get run.0.sources.items i) (slice_get last.sources.items i) t (run.2.0 i) here in
    record { source = w.0; at = w.1; step = λ u e. ap ticket_of (sym w.2.step) ∙ e; keys = w.2.keys; place = w.2.place }) (stands_after first run.0 calls log run.1 st)
stands_after first last (let_go now ∷ calls) log run st =
    all_stand run.0 last (log_after calls log) run.2.1 (λ i t here.
    let w = each_at (λ one other. IsLetGo one now other) (slice_get run.0.sources.items i) (slice_get last.sources.items i) t (run.2.0 i) here in
    record { source = w.0; at = w.1; step = λ u e. (let never : None ≡ Some u = ap ticket_of (sym w.2.step) ∙ e in cc); keys = w.2.keys; place = w.2.place })
    (stands_after first run.0 calls log run.1 st)
stands_after first last (ask at asker now answer ∷ calls) log run st =
    let c = run.2.0 in
    kept_stands run.0 last at c.0 c.1 (log_after calls log) c.2 c.3 c.5 run.2.1
    (λ u e. begun_ticket answer.fetch c.0.place c.0.step c.1.step u c.4.step e) c.4.keys c.4.place (stands_after first run.0 calls log run.1 st)
stands_after first last (wait at number name now may ∷ calls) log run st =
    let c = run.2.0 in
    kept_stands run.0 last at c.0 c.1 (log_after calls log) c.2 c.3 c.5 run.2.1
    (λ u e. ap ticket_of (sym c.4.step) ∙ e) c.4.keys c.4.place (stands_after first run.0 calls log run.1 st)
stands_after first last (next place job ∷ calls) log run st =
    let c = run.2.0 in
    let out : IsHandedOut c.0 run.0.tickets c.1 = subst (λ n. IsHandedOut c.0 n c.1) run.2.1 c.4.1 in
    subst (λ p. Stands last (handed p job.ticket ∷ log_after calls log)) c.4.0
    (subst (λ n. Stands last (handed (named c.0.place) n ∷ log_after calls log)) (sym run.2.1)
    (handed_stands run.0 last job.source c.0 c.1 (log_after calls log) c.2 c.3 c.5 run.2.2 out (stands_after first run.0 calls log run.1 st)))
stands_after first last (came place ticket status location octets brought now (Ended at end) ∷ calls) log run st =
    let c = run.2.0 in
    subst (λ p. Stands last (answered p ticket brought ∷ log_after calls log)) c.4.0
    (ended_stands run.0 last at ticket now end brought c.0 c.1 (log_after calls log) c.2 c.3 c.5 run.2.1 c.4.1 (stands_after first run.0 calls log run.1 st))
stands_after first last (came place ticket status location octets brought now Late ∷ calls) log run st =
    subst (λ s. Stands s (log_after calls log)) (sym run.2.0.0) (stands_after first run.0 calls log run.1 st)

-- ---- the histories

asked_more : (asker : Asker) (fetch : Fetch) (d : ℕ) (h : List Event) → asked (with_fetch asker fetch (passed d ∷ h)) ≡ asked h + counted asker fetch
asked_more Token NoFetch d h = omega arith
asked_more Token (Begin ticket) d h = refl
asked_more Token (UnderWay ticket left) d h = omega arith
asked_more (Refused keys) NoFetch d h = omega arith
asked_more (Refused keys) (Begin ticket) d h = refl
asked_more (Refused keys) (UnderWay ticket left) d h = omega arith
asked_more Owner NoFetch d h = omega arith
asked_more Owner (Begin ticket) d h = omega arith
asked_more Owner (UnderWay ticket left) d h = omega arith
asked_more Waited NoFetch d h = omega arith
asked_more Waited (Begin ticket) d h = omega arith
asked_more Waited (UnderWay ticket left) d h = omega arith

asked_waiting : (may : Bool) (name d : ℕ) (h : List Event) → asked (with_waiting name may (passed d ∷ h)) ≡ asked h
asked_waiting true name d h = refl
asked_waiting false name d h = refl

asked_end : (ended : Bool) (d : ℕ) (h : List Event) → asked (with_end failed ended (passed d ∷ h)) ≡ asked h
asked_end true d h = refl
asked_end false d h = refl

asked_answer : (end : Came) (d : ℕ) (h : List Event) → asked (with_answer end (passed d ∷ h)) ≡ asked h
asked_answer Taken d h = refl
asked_answer Next d h = refl
asked_answer (Failed why) d h = refl
asked_answer TooLate d h = refl

moment_fetch : (asker : Asker) (fetch : Fetch) (d : ℕ) (h : List Event) → moment (with_fetch asker fetch (passed d ∷ h)) ≡ moment h + d
moment_fetch asker NoFetch d h = refl
moment_fetch asker (Begin ticket) d h = refl
moment_fetch asker (UnderWay ticket left) d h = refl

moment_waiting : (may : Bool) (name d : ℕ) (h : List Event) → moment (with_waiting name may (passed d ∷ h)) ≡ moment h + d
moment_waiting true name d h = refl
moment_waiting false name d h = refl

moment_end : (ended : Bool) (d : ℕ) (h : List Event) → moment (with_end failed ended (passed d ∷ h)) ≡ moment h + d
moment_end true d h = refl
moment_end false d h = refl

moment_answer : (end : Came) (d : ℕ) (h : List Event) → moment (with_answer end (passed d ∷ h)) ≡ moment h + d
moment_answer Taken d h = refl
moment_answer Next d h = refl
moment_answer (Failed why) d h = refl
moment_answer TooLate d h = refl

first_of_two : (b : Bool) (n m : ℕ) → b ≡ true → (if b then n else m) ≡ n
first_of_two true n m e = refl
first_of_two false n m e = let never : false ≡ true = e in cc

second_of_two : (b : Bool) (n m : ℕ) → (b ≡ true → ⊥) → (if b then n else m) ≡ m
second_of_two true n m never = absurd (never refl)
second_of_two false n m never = refl

pub same_place : (place at n m : ℕ) → place ≡ at → (if place == at then n else m) ≡ n
same_place place at n m e = first_of_two (place == at) n m (eq-eqb place at e)

pub other_place : (place at n m : ℕ) → place ≢ at → (if place == at then n else m) ≡ m
other_place place at n m apart = second_of_two (place == at) n m (λ e. apart (eqb-true place at e))

-- a history of the source, in which so many fetches began for tokens, and so much time passed; and the moment that the source was told last
pub record Has {K : Type 0} (t : Source K) (count spent last : ℕ) : Type 0 where
  pub history : List Event
  pub stands : Renewed.Stands t.renewal history
  pub begun : asked history ≡ count
  pub spent_is : moment history ≡ spent
  pub heard : t.renewal.heard ≡ last

recount : {K : Type 0} (t : Source K) (a b l a' b' l' : ℕ) → Has t a b l → a ≡ a' → b ≡ b' → l ≡ l' → Has t a' b' l'
recount t a b l a' b' l' it p q r =
    record { history = it.history; stands = it.stands; begun = it.begun ∙ p; spent_is = it.spent_is ∙ q; heard = it.heard ∙ r }

-- where this very source changed
changed_has : {K : Type 0} (t one other : Source K) (place at now d count more b P H m : ℕ) (h k : List Event) → place ≡ at → t ≡ other → other.renewal.heard ≡ now → Renewed.Stands other.renewal k
    → asked k ≡ asked h + count → moment k ≡ moment h + d → d ≡ now - one.renewal.heard → count ≡ more → (it : Has one (b) (m + P) H) → it.history ≡ h
    → Has t (b + (if place == at then more else 0)) (m + (P + (if place == at then now - H else 0))) (if place == at then now else H)
changed_has t one other place at now d count more b P H m h k same is heard stands asks spends is_d is_more it is_h = record {
  history = k;
  stands = subst (λ x. Renewed.Stands x.renewal k) (sym is) stands;
  begun =
      let picks = same_place place at more 0 same in
      let was : asked h ≡ b = ap asked (sym is_h) ∙ it.begun in
      omega (arith, asks, picks, was, is_more);
  spent_is =
      let picks = same_place place at (now - H) 0 same in
      let was : moment h ≡ m + P = ap moment (sym is_h) ∙ it.spent_is in
      let from : one.renewal.heard ≡ H = it.heard in
      omega (arith, spends, picks, was, is_d, from);
  heard = ap (λ x. x.renewal.heard) is ∙ heard ∙ sym (same_place place at now H same);
}

-- where another one did
other_has : {K : Type 0} (t : Source K) (place at now more b P H m : ℕ) → place ≢ at → Has t b (m + P) H
    → Has t (b + (if place == at then more else 0)) (m + (P + (if place == at then now - H else 0))) (if place == at then now else H)
other_has t place at now more b P H m apart it = record {
  history = it.history;
  stands = it.stands;
  begun = let picks = other_place place at more 0 apart in omega (arith, picks, it.begun);
  spent_is = let picks = other_place place at (now - H) 0 apart in omega (arith, picks, it.spent_is);
  heard = it.heard ∙ sym (other_place place at now H apart);
}

-- the same, where nothing is counted
uncounted : {K : Type 0} (t : Source K) (place at b n m : ℕ) (more : ℕ) → more ≡ 0 → Has t (b + (if place == at then more else 0)) n m → Has t b n m
uncounted t place at b n m more zero it =
    recount t (b + (if place == at then more else 0)) n m b n m it (elim (same_or_not place at) [
      | inl same ↦ let picks = same_place place at more 0 same in omega (arith, picks, zero)
      | inr apart ↦ let picks = other_place place at more 0 apart in omega (arith, picks)
    ]) refl refl

pub history_after : {K : Type 0} (first last : Sources K) (calls : List (Call K)) (place : ℕ) (s t : Source K) (h : List Event) → AreCalls first calls last → IsAt first place s → IsAt last place t
    → Renewed.Stands s.renewal h → Has t (asked h + begun_at place calls) (moment h + passed_at place s.renewal.heard calls) (heard_at place s.renewal.heard calls)
history_after first last [] place s t h run is_s is_t st =
    let same : s ≡ t = one_at first.sources.items place s t is_s (subst (λ x. IsAt x place t) run is_t) in
    record {
      history = h;
      stands = subst (λ x. Renewed.Stands x.renewal h) same st;
      begun = omega arith;
      spent_is = omega arith;
      heard = ap (λ x. x.renewal.heard) (sym same);
    }
history_after first last (tell now ∷ calls) place s t h run is_s is_t st =
    let was = each_at (λ one other. IsTold one now other) (slice_get run.0.sources.items place) (slice_get last.sources.items place) t (run.2.0 place) is_t in
    let before = history_after first run.0 calls place s was.0 h run.1 is_s was.1 st in
    record {
      history = passed (now - was.0.renewal.heard) ∷ before.history;
      stands = was.2.renewed before.history before.stands;
      begun = before.begun;
      spent_is =
          let from : was.0.renewal.heard ≡ heard_at place s.renewal.heard calls = before.heard in
          let so_far : moment before.history ≡ moment h + passed_at place s.renewal.heard calls = before.spent_is in
          let total : moment before.history + (now - was.0.renewal.heard) ≡ moment h + (passed_at place s.renewal.heard calls + (now - heard_at place s.renewal.heard calls)) =
          omega (arith, from, so_far) in total;
      heard = was.2.heard;
    }
history_after first last (let_go now ∷ calls) place s t h run is_s is_t st =
    let was = each_at (λ one other. IsLetGo one now other) (slice_get run.0.sources.items place) (slice_get last.sources.items place) t (run.2.0 place) is_t in
    let before = history_after first run.0 calls place s was.0 h run.1 is_s was.1 st in
    let so = was.2.renewed before.history before.stands in
    record {
      history = with_end failed so.0 (passed (now - was.0.renewal.heard) ∷ before.history);
      stands = so.2;
      begun = asked_end so.0 (now - was.0.renewal.heard) before.history ∙ before.begun;
      spent_is =
          let from : was.0.renewal.heard ≡ heard_at place s.renewal.heard calls = before.heard in
          let so_far : moment before.history ≡ moment h + passed_at place s.renewal.heard calls = before.spent_is in
          let total : moment before.history + (now - was.0.renewal.heard) ≡ moment h + (passed_at place s.renewal.heard calls + (now - heard_at place s.renewal.heard calls)) =
          omega (arith, from, so_far) in moment_end so.0 (now - was.0.renewal.heard) before.history ∙ total;
      heard = was.2.heard;
    }
history_after first last (ask at asker now answer ∷ calls) place s t h run is_s is_t st =
    let c = run.2.0 in
    recount t (asked h + begun_at place calls + (if place == at then counted asker answer.fetch else 0)) _ _ (asked h + (begun_at place calls + (if place == at then counted asker answer.fetch else 0))) _ _
    (elim (which at run.0 last c.1 c.5 c.3 place t is_t) [
      | inl same ↦
          let before = history_after first run.0 calls place s c.0 h run.1 is_s (subst (λ n. IsAt run.0 n c.0) (sym same.0) c.2) st in
          changed_has t c.0 c.1 place at now (now - c.0.renewal.heard) (counted asker answer.fetch) (counted asker answer.fetch) (asked h + begun_at place calls)
          (passed_at place s.renewal.heard calls) (heard_at place s.renewal.heard calls) (moment h) before.history
          (with_fetch asker answer.fetch (passed (now - c.0.renewal.heard) ∷ before.history)) same.0 same.1 c.4.heard (c.4.renewed before.history before.stands)
          (asked_more asker answer.fetch (now - c.0.renewal.heard) before.history) (moment_fetch asker answer.fetch (now - c.0.renewal.heard) before.history) refl refl before refl
      | inr other ↦
          other_has t place at now (counted asker answer.fetch) (asked h + begun_at place calls) (passed_at place s.renewal.heard calls) (heard_at place s.renewal.heard calls) (moment h) other.0
          (history_after first run.0 calls place s t h run.1 is_s other.1 st)
    ]) (omega arith) refl refl
history_after first last (wait at number name now may ∷ calls) place s t h run is_s is_t st =
    let c = run.2.0 in
    uncounted t place at (asked h + begun_at place calls) _ _ 0 refl
    (elim (which at run.0 last c.1 c.5 c.3 place t is_t) [
      | inl same ↦
          let before = history_after first run.0 calls place s c.0 h run.1 is_s (subst (λ n. IsAt run.0 n c.0) (sym same.0) c.2) st in
          let none : asked (with_waiting name may (passed (now - c.0.renewal.heard) ∷ before.history)) ≡ asked before.history + 0 =
          let stays = asked_waiting may name (now - c.0.renewal.heard) before.history in omega (arith, stays) in
          changed_has t c.0 c.1 place at now (now - c.0.renewal.heard) 0 0 (asked h + begun_at place calls)
          (passed_at place s.renewal.heard calls) (heard_at place s.renewal.heard calls) (moment h) before.history
          (with_waiting name may (passed (now - c.0.renewal.heard) ∷ before.history)) same.0 same.1 c.4.heard (c.4.renewed before.history before.stands)
          none (moment_waiting may name (now - c.0.renewal.heard) before.history) refl refl before refl
      | inr other ↦
          other_has t place at now 0 (asked h + begun_at place calls) (passed_at place s.renewal.heard calls) (heard_at place s.renewal.heard calls) (moment h) other.0
          (history_after first run.0 calls place s t h run.1 is_s other.1 st)
    ])
history_after first last (next stood job ∷ calls) place s t h run is_s is_t st =
    let c = run.2.0 in
    elim (which job.source run.0 last c.1 c.5 c.3 place t is_t) [
      | inl same ↦
          let before = history_after first run.0 calls place s c.0 h run.1 is_s (subst (λ n. IsAt run.0 n c.0) (sym same.0) c.2) st in
          let same_renewal : t.renewal ≡ c.0.renewal = ap (λ x. x.renewal) same.1 ∙ c.4.1.renewal in
          record {
            history = before.history;
            stands = rw same_renewal before.stands;
            begun = before.begun;
            spent_is = before.spent_is;
            heard = ap (λ x. x.heard) same_renewal ∙ before.heard;
          }
      | inr other ↦ history_after first run.0 calls place s t h run.1 is_s other.1 st
    ]
history_after first last (came stood ticket status location octets brought now (Ended at end) ∷ calls) place s t h run is_s is_t st =
    let c = run.2.0 in
    uncounted t place at (asked h + begun_at place calls) _ _ 0 refl
    (elim (which at run.0 last c.1 c.5 c.3 place t is_t) [
      | inl same ↦
          let before = history_after first run.0 calls place s c.0 h run.1 is_s (subst (λ n. IsAt run.0 n c.0) (sym same.0) c.2) st in
          let none : asked (with_answer end (passed (now - c.0.renewal.heard) ∷ before.history)) ≡ asked before.history + 0 =
          let stays = asked_answer end (now - c.0.renewal.heard) before.history in omega (arith, stays) in
          changed_has t c.0 c.1 place at now (now - c.0.renewal.heard) 0 0 (asked h + begun_at place calls)
          (passed_at place s.renewal.heard calls) (heard_at place s.renewal.heard calls) (moment h) before.history
          (with_answer end (passed (now - c.0.renewal.heard) ∷ before.history)) same.0 same.1 c.4.1.heard (c.4.1.renewed before.history before.stands)
          none (moment_answer end (now - c.0.renewal.heard) before.history) refl refl before refl
      | inr other ↦
          other_has t place at now 0 (asked h + begun_at place calls) (passed_at place s.renewal.heard calls) (heard_at place s.renewal.heard calls) (moment h) other.0
          (history_after first run.0 calls place s t h run.1 is_s other.1 st)
    ])
history_after first last (came stood ticket status location octets brought now Late ∷ calls) place s t h run is_s is_t st =
    history_after first run.0 calls place s t h run.1 is_s (subst (λ x. IsAt x place t) run.2.0.0 is_t) st
