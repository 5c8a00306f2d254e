-- From what the steps of `verify --lines` say to what the run says.
use Rattle.std.proofs.Common.{◌≡◌, ◌⊎◌, inl, inr, sym, subst, ℕ, Bool, List, Option, None, Some, Result, Ok, Err, IfOk, IfErr, IfSome}
use Rattle.jwt_mac.specs.Verifying.{Meaning}
use Rattle.jwt_keys.specs.KeySets.{KeyList}
use Rattle.jwt_keys.specs.declared.fault.KeysFault.{KeysFault}
use Rattle.jwt_access.specs.Rules.{Rule}
use Rattle.jwt_access.specs.declared.access_fault.AccessFault.{AccessFault}
use Rattle.jwt_policy.specs.Settings.{Settings}
use Rattle.jwt_policy.specs.declared.policy_fault.PolicyFault.{PolicyFault}
use Rattle.jwt_command.specs.Lines.{GivesLines, with_held}
use Rattle.jwt_output.specs.Printed.{Answer, out_of_memory}
use Rattle.jwt_command.specs.RunLines.{LinesByKeys, LinesByPolicy, LinesByRule, LinesInHand, Outcome, Printed}
use Rattle.jwt_output.specs.verdicts.Printer.{Printer}
use Rattle.jwt_command.specs.Verify.{terms_of_keys}

-- what holds for each x holds where x is known
pub where_known : (known : Option (List ℕ)) (P : List ℕ → Type 0) → ((x : List ℕ) → P x) → IfSome known P
where_known None P each = tt
where_known (Some x) P each = each x

-- an answer that was given is printed, or memory was refused
pub given : {A E : Type 0} (view : A → Answer) (reply : Result A E) (a : Answer) (o : Outcome) → IfOk reply (λ r. view r ≡ a)
    → IfOk reply (λ r. Printed (view r) o) → IfErr reply (λ e. Printed out_of_memory o) → Printed out_of_memory o ⊎ Printed a o
given view (Ok r) a o is printed lacks = inr (subst (λ (b : Answer). Printed b o) is printed)
given view (Err e) a o is printed lacks = inl lacks

or_else : (A B C : Type 0) → (B → C) → A ⊎ B → A ⊎ C
or_else A B C f (inl a) = inl a
or_else A B C f (inr b) = inr (f b)

pub policy_is_refused : {A E : Type 0} (view : A → Answer) (tell : Printer) (verifiers : List Meaning) (says : ℕ → List ℕ → ℕ → Type 0) (now : Option ℕ) (known : Option (List ℕ)) (policy : Result Settings PolicyFault) (set : Result KeyList KeysFault) (rule : Result (Option Rule) AccessFault)
    (fault : PolicyFault) (reply : Result A E) (unread : Bool) (o : Outcome) → policy ≡ Err fault → IfOk reply (λ r. view r ≡ tell.policy_refused fault)
    → IfOk reply (λ r. Printed (view r) o) → IfErr reply (λ e. Printed out_of_memory o)
    → IfSome known (λ x. Printed out_of_memory o ⊎ LinesByPolicy tell verifiers says now policy set rule x unread o)
policy_is_refused view tell verifiers says now known policy set rule fault reply unread o is line printed lacks =
    where_known known (λ x. Printed out_of_memory o ⊎ LinesByPolicy tell verifiers says now policy set rule x unread o) (λ x.
    or_else (Printed out_of_memory o) (Printed (tell.policy_refused fault) o) (LinesByPolicy tell verifiers says now policy set rule x unread o)
    (λ h. subst (λ (p : Result Settings PolicyFault). LinesByPolicy tell verifiers says now p set rule x unread o) (sym is) h) (given view reply (tell.policy_refused fault) o line printed lacks))

pub keys_are_refused : {A E : Type 0} (view : A → Answer) (tell : Printer) (verifiers : List Meaning) (says : ℕ → List ℕ → ℕ → Type 0) (now : Option ℕ) (known : Option (List ℕ)) (policy : Result Settings PolicyFault) (set : Result KeyList KeysFault) (rule : Result (Option Rule) AccessFault)
    (p : Settings) (fault : KeysFault) (reply : Result A E) (unread : Bool) (o : Outcome) → policy ≡ Ok p → set ≡ Err fault
    → IfOk reply (λ r. view r ≡ tell.keys_refused fault) → IfOk reply (λ r. Printed (view r) o) → IfErr reply (λ e. Printed out_of_memory o)
    → IfSome known (λ x. Printed out_of_memory o ⊎ LinesByPolicy tell verifiers says now policy set rule x unread o)
keys_are_refused view tell verifiers says now known policy set rule p fault reply unread o policy_is set_is line printed lacks =
    where_known known (λ x. Printed out_of_memory o ⊎ LinesByPolicy tell verifiers says now policy set rule x unread o) (λ x.
    or_else (Printed out_of_memory o) (Printed (tell.keys_refused fault) o) (LinesByPolicy tell verifiers says now policy set rule x unread o)
    (λ h. subst (λ (q : Result Settings PolicyFault). LinesByPolicy tell verifiers says now q set rule x unread o) (sym policy_is)
    (subst (λ (s : Result KeyList KeysFault). LinesByKeys tell verifiers says now p s rule x unread o) (sym set_is) h)) (given view reply (tell.keys_refused fault) o line printed lacks))

pub lines_are_given : (tell : Printer) (verifiers : List Meaning) (says : ℕ → List ℕ → ℕ → Type 0) (now : Option ℕ) (known : Option (List ℕ)) (policy : Result Settings PolicyFault) (set : Result KeyList KeysFault) (rule : Result (Option Rule) AccessFault)
    (p : Settings) (keys : KeyList) (unread : Bool) (o : Outcome) → policy ≡ Ok p → set ≡ Ok keys
    → IfSome known (λ x. Printed out_of_memory o ⊎ LinesByRule tell verifiers says now p keys rule x unread o)
    → IfSome known (λ x. Printed out_of_memory o ⊎ LinesByPolicy tell verifiers says now policy set rule x unread o)
lines_are_given tell verifiers says now None policy set rule p keys unread o policy_is set_is given = tt
lines_are_given tell verifiers says now (Some x) policy set rule p keys unread o policy_is set_is given =
    or_else (Printed out_of_memory o) (LinesByRule tell verifiers says now p keys rule x unread o) (LinesByPolicy tell verifiers says now policy set rule x unread o)
    (λ h. subst (λ (q : Result Settings PolicyFault). LinesByPolicy tell verifiers says now q set rule x unread o) (sym policy_is)
    (subst (λ (s : Result KeyList KeysFault). LinesByKeys tell verifiers says now p s rule x unread o) (sym set_is) h)) given

-- ---- the rule

pub rule_is_refused : {A E : Type 0} (view : A → Answer) (tell : Printer) (verifiers : List Meaning) (says : ℕ → List ℕ → ℕ → Type 0) (now : Option ℕ) (known : Option (List ℕ)) (p : Settings) (keys : KeyList) (rule : Result (Option Rule) AccessFault)
    (fault : AccessFault) (reply : Result A E) (unread : Bool) (o : Outcome) → rule ≡ Err fault → IfOk reply (λ r. view r ≡ tell.access_refused fault)
    → IfOk reply (λ r. Printed (view r) o) → IfErr reply (λ e. Printed out_of_memory o)
    → IfSome known (λ x. Printed out_of_memory o ⊎ LinesByRule tell verifiers says now p keys rule x unread o)
rule_is_refused view tell verifiers says now known p keys rule fault reply unread o is line printed lacks =
    where_known known (λ x. Printed out_of_memory o ⊎ LinesByRule tell verifiers says now p keys rule x unread o) (λ x.
    or_else (Printed out_of_memory o) (Printed (tell.access_refused fault) o) (LinesByRule tell verifiers says now p keys rule x unread o)
    (λ h. subst (λ (k : Result (Option Rule) AccessFault). LinesByRule tell verifiers says now p keys k x unread o) (sym is) h) (given view reply (tell.access_refused fault) o line printed lacks))

pub lines_by_rule_are_given : (tell : Printer) (verifiers : List Meaning) (says : ℕ → List ℕ → ℕ → Type 0) (now : Option ℕ) (known : Option (List ℕ)) (p : Settings) (keys : KeyList) (rule : Result (Option Rule) AccessFault)
    (asked : Option Rule) (unread : Bool) (o : Outcome) → rule ≡ Ok asked
    → IfSome known (λ x. GivesLines (λ m l. tell.token asked (terms_of_keys verifiers m p keys) l) tell.read_failed (with_held p.run.limit says) now x unread o.before o.after o.failed o.status)
    → IfSome known (λ x. Printed out_of_memory o ⊎ LinesByRule tell verifiers says now p keys rule x unread o)
lines_by_rule_are_given tell verifiers says now None p keys rule asked unread o is given = tt
lines_by_rule_are_given tell verifiers says now (Some x) p keys rule asked unread o is given =
    inr (subst (λ (k : Result (Option Rule) AccessFault). LinesByRule tell verifiers says now p keys k x unread o) (sym is) given)

policy_lacks : (tell : Printer) (verifiers : List Meaning) (says : ℕ → List ℕ → ℕ → Type 0) (now : Option ℕ) (policy keys access : Option (List ℕ)) (x : List ℕ) (unread : Bool) (o : Outcome)
    → policy ≡ None → Printed tell.read_failed o → LinesInHand tell verifiers says now policy keys access x unread o
policy_lacks tell verifiers says now policy keys access x unread o is printed = subst (λ (p : Option (List ℕ)). LinesInHand tell verifiers says now p keys access x unread o) (sym is) printed

keys_lack : (tell : Printer) (verifiers : List Meaning) (says : ℕ → List ℕ → ℕ → Type 0) (now : Option ℕ) (policy keys access : Option (List ℕ)) (x : List ℕ) (unread : Bool) (o : Outcome)
    → keys ≡ None → Printed tell.read_failed o → LinesInHand tell verifiers says now policy keys access x unread o
keys_lack tell verifiers says now None keys access x unread o is printed = printed
keys_lack tell verifiers says now (Some p) keys access x unread o is printed = subst (λ (k : Option (List ℕ)). LinesInHand tell verifiers says now (Some p) k access x unread o) (sym is) printed

pub without_policy : {A E : Type 0} (view : A → Answer) (tell : Printer) (verifiers : List Meaning) (says : ℕ → List ℕ → ℕ → Type 0) (now : Option ℕ) (policy keys access : Option (List ℕ)) (known : Option (List ℕ)) (reply : Result A E) (failed : Bool) (o : Outcome)
    → policy ≡ None → IfOk reply (λ r. view r ≡ tell.read_failed) → IfOk reply (λ r. Printed (view r) o) → IfErr reply (λ e. Printed out_of_memory o)
    → IfSome known (λ x. Printed out_of_memory o ⊎ LinesInHand tell verifiers says now policy keys access x failed o)
without_policy view tell verifiers says now policy keys access known reply failed o lacking answer printed lacks =
    where_known known (λ x. Printed out_of_memory o ⊎ LinesInHand tell verifiers says now policy keys access x failed o) (λ x.
    or_else (Printed out_of_memory o) (Printed tell.read_failed o) (LinesInHand tell verifiers says now policy keys access x failed o)
    (policy_lacks tell verifiers says now policy keys access x failed o lacking) (given view reply tell.read_failed o answer printed lacks))

pub without_keys : {A E : Type 0} (view : A → Answer) (tell : Printer) (verifiers : List Meaning) (says : ℕ → List ℕ → ℕ → Type 0) (now : Option ℕ) (policy keys access : Option (List ℕ)) (known : Option (List ℕ)) (reply : Result A E) (failed : Bool) (o : Outcome)
    → keys ≡ None → IfOk reply (λ r. view r ≡ tell.read_failed) → IfOk reply (λ r. Printed (view r) o) → IfErr reply (λ e. Printed out_of_memory o)
    → IfSome known (λ x. Printed out_of_memory o ⊎ LinesInHand tell verifiers says now policy keys access x failed o)
without_keys view tell verifiers says now policy keys access known reply failed o lacking answer printed lacks =
    where_known known (λ x. Printed out_of_memory o ⊎ LinesInHand tell verifiers says now policy keys access x failed o) (λ x.
    or_else (Printed out_of_memory o) (Printed tell.read_failed o) (LinesInHand tell verifiers says now policy keys access x failed o)
    (keys_lack tell verifiers says now policy keys access x failed o lacking) (given view reply tell.read_failed o answer printed lacks))
