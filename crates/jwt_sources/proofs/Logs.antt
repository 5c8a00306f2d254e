-- A log after one more entry.
use Rattle.std.proofs.Common.{◌≡◌, ◌<◌, ◌≤◌, ℕ, true, false, List, [], ◌∷◌, Option, None, Some, refl, inl, inr, ap, sym, ◌∙◌, subst, arith}
use Rattle.jwt_sources.specs.declared.source.Came.{Came}
use Rattle.jwt_sources.specs.declared.source.Came.TheVariants.{Taken, Next, Failed, Late}
use Rattle.jwt_sources.specs.declared.step.Keys.{Keys}
use Rattle.jwt_sources.specs.declared.step.Target.{Target}
use Rattle.jwt_sources.specs.declared.step.Step.{Step}
use Rattle.jwt_sources.specs.declared.step.Step.TheVariants.{Nothing, Due, Out}
use Rattle.jwt_sources.specs.Places.{Named}
use Rattle.jwt_sources.specs.Steps.{ticket_of, is_due, IsHanded, AreKeys}
use Rattle.jwt_sources.specs.Tickets.{Entry, handed, answered, WasHanded, IsOpen, WasAnswered, AllBelow, IsRun}

pub below_more : {K : Type 0} (n m : ℕ) (log : List (Entry K)) → n ≤ m → AllBelow n log → AllBelow m log
below_more n m [] more b = tt
below_more n m (handed i t ∷ log) more b = (omega (arith, more, b.0), below_more n m log more b.1)
below_more n m (answered i t octets ∷ log) more b = below_more n m log more b

pub open_below : {K : Type 0} (n : ℕ) (i : Named) (t : ℕ) (log : List (Entry K)) → AllBelow n log → IsOpen i t log → t < n
open_below n i t [] b o = absurd o
open_below n i t (handed j u ∷ log) b o = elim o [ inl here ↦ omega (arith, here.1, b.0) | inr before ↦ open_below n i t log b.1 before ]
open_below n i t (answered j u octets ∷ log) b o = open_below n i t log b o.1

-- what is waited for behind a handing out is the new ticket
pub handed_ticket : (step new : Step) (ticket t : ℕ) → IsHanded step ticket new → ticket_of new ≡ Some t → t ≡ ticket
handed_ticket step new ticket t is waits = let same : Some ticket ≡ Some t = sym (ap ticket_of is.2) ∙ waits in cc

pub due_target : (step : Step) → is_due step ≡ true → (target : Target) × (step ≡ Due target)
due_target Nothing due = let never : false ≡ true = due in cc
due_target (Due target) due = (target, refl)
due_target (Out other target) due = let never : false ≡ true = due in cc

-- keys that stay, or came with this answer
pub keys_after : {K : Type 0} (came : Came) (old new : Option (Keys K)) (place : Named) (ticket : ℕ) (brought : Option K) (k : Keys K) (log : List (Entry K))
    → ((it : Keys K) → old ≡ Some it → WasAnswered place it.ticket (Some it.prepared) log) → AreKeys came old ticket brought new → new ≡ Some k
    → WasAnswered place k.ticket (Some k.prepared) (answered place ticket brought ∷ log)
keys_after Taken old None place ticket brought k log w are e = absurd are
keys_after Taken old (Some it) place ticket brought k log w are e =
    let same : it ≡ k = cc in
    let one : k.ticket ≡ ticket = ap (λ x. x.ticket) (sym same) ∙ are.0 in
    let two : Some k.prepared ≡ brought = ap (λ x. Some x.prepared) (sym same) ∙ sym are.1 in
    inl (refl, one, two)
keys_after Next old new place ticket brought k log w are e = inr (w k (sym are ∙ e))
keys_after (Failed why) old new place ticket brought k log w are e = inr (w k (sym are ∙ e))
keys_after Late old new place ticket brought k log w are e = inr (w k (sym are ∙ e))

handed_below : {K : Type 0} (n : ℕ) (i : Named) (t : ℕ) (log : List (Entry K)) → AllBelow n log → WasHanded i t log → t < n
handed_below n i t [] b o = absurd o
handed_below n i t (handed j u ∷ log) b o = elim o [ inl here ↦ omega (arith, here.1, b.0) | inr before ↦ handed_below n i t log b.1 before ]
handed_below n i t (answered j u octets ∷ log) b o = handed_below n i t log b o

open_handed : {K : Type 0} (i : Named) (t : ℕ) (log : List (Entry K)) → IsOpen i t log → WasHanded i t log
open_handed i t [] o = o
open_handed i t (handed j u ∷ log) o = elim o [ inl here ↦ inl here | inr before ↦ inr (open_handed i t log before) ]
open_handed i t (answered j u octets ∷ log) o = open_handed i t log o.1

pub handed_once : {K : Type 0} (i j : Named) (t : ℕ) (log : List (Entry K)) → IsRun log → WasHanded i t log → WasHanded j t log → i ≡ j
handed_once i j t [] run o p = absurd o
handed_once i j t (handed k u ∷ log) run o p =
    elim o [
      | inl here ↦ elim p [
        | inl there ↦ here.0 ∙ sym there.0
        | inr before ↦ absurd (omega (arith, here.1, handed_below u j t log run.0 before))
      ]
      | inr before ↦ elim p [
        | inl there ↦ absurd (omega (arith, there.1, handed_below u i t log run.0 before))
        | inr before2 ↦ handed_once i j t log run.1 before before2
      ]
    ]
handed_once i j t (answered k u octets ∷ log) run o p = handed_once i j t log run.1 o p

-- what came for a place came by a ticket that was handed out for it
pub answered_handed : {K : Type 0} (i : Named) (t : ℕ) (content : Option K) (log : List (Entry K)) → IsRun log → WasAnswered i t content log → WasHanded i t log
answered_handed i t content [] run a = absurd a
answered_handed i t content (handed j u ∷ log) run a = inr (answered_handed i t content log run.1 a)
answered_handed i t content (answered j u octets ∷ log) run a =
    elim a [
      | inl here ↦
          let still : WasHanded j u log = open_handed j u log run.0 in
          subst (λ n. WasHanded n t log) (sym here.0) (subst (λ n. WasHanded j n log) (sym here.1) still)
      | inr before ↦ answered_handed i t content log run.1 before
    ]

-- a ticket that was answered is open for nobody
not_open : {K : Type 0} (i j : Named) (t : ℕ) (content : Option K) (log : List (Entry K)) → IsRun log → WasAnswered i t content log → IsOpen j t log → ⊥
not_open i j t content [] run a o = a
not_open i j t content (handed k u ∷ log) run a o =
    elim o [
      | inl here ↦ omega (arith, here.1, handed_below u i t log run.0 (answered_handed i t content log run.1 a))
      | inr before ↦ not_open i j t content log run.1 a before
    ]
not_open i j t content (answered k u octets ∷ log) run a o =
    elim a [ inl here ↦ o.0 here.1 | inr before ↦ not_open i j t content log run.1 before o.1 ]

pub one_answer : {K : Type 0} (i j : Named) (t : ℕ) (one other : Option K) (log : List (Entry K)) → IsRun log → WasAnswered i t one log → WasAnswered j t other log → (i ≡ j) × (one ≡ other)
one_answer i j t one other [] run a b = absurd a
one_answer i j t one other (handed k u ∷ log) run a b = one_answer i j t one other log run.1 a b
one_answer i j t one other (answered k u octets ∷ log) run a b =
    elim a [
      | inl here ↦ elim b [
        | inl there ↦ (here.0 ∙ sym there.0, here.2 ∙ sym there.2)
        | inr before ↦ absurd (not_open j k t other log run.1 before (subst (λ n. IsOpen k n log) (sym here.1) run.0))
      ]
      | inr before ↦ elim b [
        | inl there ↦ absurd (not_open i k t one log run.1 before (subst (λ n. IsOpen k n log) (sym there.1) run.0))
        | inr before2 ↦ one_answer i j t one other log run.1 before before2
      ]
    ]
