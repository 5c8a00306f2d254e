-- What `verify` takes, and its answer where a line is too long.
use Rattle.std.proofs.Common.{◌≡◌, ◌≤◌, ◌<◌, ◌⊎◌, inl, inr, ℕ, ◌+◌, Bool, true, false, List, [], length, drop, Option, None, Some, Result, Ok, Err, IfOk, refl, sym, ap, subst, ◌∙◌, drop-drop, arith, nat_lt, IfSome}
use Rattle.std.proofs.lemmas.Bool.Decides.{nat_tests}
use Rattle.std.specs.Option.{option_map_or}
use Rattle.jwt_text.specs.declared.limits.TheConstants.{LONGEST_KEY_SET, LONGEST_POLICY}
use Rattle.jwt_mac.specs.Verifying.{Meaning}
use Rattle.jwt_keys.specs.KeySets.{KeyList, key_set_of}
use Rattle.jwt_keys.specs.declared.fault.KeysFault.TheVariants as keys
use Rattle.jwt_policy.specs.Document.{policy_of}
use Rattle.jwt_policy.specs.declared.policy_fault.PolicyFault.TheVariants as policy
use Rattle.jwt_verify.specs.Table.{states, work}
use Rattle.jwt_jws.specs.Token.{Token}
use Rattle.jwt_jws.specs.declared.signed.Signed.{Signed}
use Rattle.jwt_jws.specs.Views.{token as token_view}
use Rattle.jwt_verify.specs.Accepted.{TellsTokens}
use Rattle.jwt_verify.specs.declared.report.Fault.{Fault}
use Rattle.jwt_verify.specs.Verdict.{Terms, table, token_of, token_or_none, verdict_of}
use Rattle.jwt_verify.specs.Reports.{FoundMemory, IsReadAs, IsReport}
use Rattle.jwt_verify.specs.Steps.{TellsReports}
use Rattle.jwt_verify.specs.declared.report.Report.{Report}
use Rattle.jwt_verify.specs.declared.report.Verdict.{Verdict}
use Rattle.jwt_access.specs.Rules.{Rule}
use Rattle.jwt_access.specs.declared.access_fault.AccessFault.{AccessFault}
use Rattle.jwt_policy.specs.Settings.{Settings}
use Rattle.jwt_words.specs.InHand.{Held}
use Rattle.jwt_command.specs.Access.{under_rule}
use Rattle.jwt_command.specs.Documents.{TakesDocument, behind, document, document_most, last_document}
use Rattle.jwt_text.specs.Intake.{TakesAtMost}
use Rattle.jwt_command.specs.Issue.{issue_answer, issue_under}
use Rattle.jwt_issue.specs.Options.{OptionParts}
use Rattle.jwt_output.specs.verdicts.Denied.{Demands}
use Rattle.jwt_output.specs.verdicts.Printer.{Printer, unless_read_failed}
use Rattle.jwt_command.specs.Verify.{keys_answer, payload_in, under_keys, under_policy, verify_answer}
use Rattle.jwt_output.specs.Refused.{printed_keys_fault}
use Rattle.jwt_settings.specs.declared.printing.Printing.{Printing}
use Rattle.jwt_settings.specs.declared.printing.Printing.TheVariants.{Lines}
use Rattle.jwt_output.specs.verdicts.Verdicts.{moment_of, payload_of, token_answer, verdict_answer}
use Rattle.jwt_output.specs.Printed.{Answer}
use Rattle.jwt_command.specs.Stops.{behind_keys, behind_policy, keys_most, token_most, verify_most}

-- ---- what is taken

pub more_taken : (first second most : ℕ) (x : List ℕ) (rest : Option (List ℕ)) (failed : Bool) → first + second ≤ most
    → (y : List ℕ) → TakesAtMost first x (Some y) → (failed ≡ true) ⊎ TakesAtMost second y rest → (failed ≡ true) ⊎ TakesAtMost most x rest
more_taken first second most x rest failed within y a (inl is) = inl is
more_taken first second most x rest failed within y (n, n_within, is) (inr (m, m_within, rest_is)) = inr (n + m, omega (arith, n_within, m_within, within), rest_is ∙ ap Some (ap (drop m) (ap (λ o. option_map_or (λ l. l) o y) is) ∙ drop-drop m n x))

pub under_policy_taken : (h : Held) (x : List ℕ) (p : Settings) (rest : Option (List ℕ)) (failed : Bool) → policy_of (document h.policy x) ≡ Ok p
    → (failed ≡ true) ⊎ TakesAtMost (document_most LONGEST_POLICY h.policy x + keys_most (token_most h p) h.keys (behind h.policy x)) x rest → (failed ≡ true) ⊎ TakesAtMost (verify_most h x) x rest
under_policy_taken h x p rest failed is t = subst (λ r. (failed ≡ true) ⊎ TakesAtMost (document_most LONGEST_POLICY h.policy x + behind_policy h r (behind h.policy x)) x rest) (sym is) t

pub most_is : (n most : ℕ) (x : List ℕ) (rest : Option (List ℕ)) (failed : Bool) → n ≤ most → (failed ≡ true) ⊎ TakesAtMost n x rest → (failed ≡ true) ⊎ TakesAtMost most x rest
most_is n most x rest failed within (inl is) = inl is
most_is n most x rest failed within (inr (m, m_within, is)) = inr (m, omega (arith, m_within, within), is)

-- ---- documents

-- nothing is taken
pub nothing_taken : (most : List ℕ → ℕ) (known : Option (List ℕ)) (failed : Bool) → IfSome known (λ x. (failed ≡ true) ⊎ TakesAtMost (most x) x known)
nothing_taken most None failed = tt
nothing_taken most (Some x) failed = inr (0, omega arith, refl)

pub document_stops : (limit more : ℕ) (held : Option (List ℕ)) (x : List ℕ) (rest : Option (List ℕ)) (failed : Bool) → (failed ≡ true) ⊎ TakesAtMost (document_most limit held x) x rest → (failed ≡ true) ⊎ TakesAtMost (document_most limit held x + more) x rest
document_stops limit more held x rest failed h = most_is (document_most limit held x) (document_most limit held x + more) x rest failed (omega arith) h

-- what is taken by a document and behind it
pub document_then_stops : (limit : ℕ) (more : List ℕ → ℕ) (held : Option (List ℕ)) (x octets : List ℕ) (mid rest : Option (List ℕ)) (failed : Bool)
    → TakesDocument limit held x octets mid → IfSome mid (λ y. (failed ≡ true) ⊎ TakesAtMost (more y) y rest) → (failed ≡ true) ⊎ TakesAtMost (document_most limit held x + more (behind held x)) x rest
document_then_stops limit more held x octets mid rest failed h then =
    more_taken (document_most limit held x) (more (behind held x)) (document_most limit held x + more (behind held x)) x rest failed (omega arith) (behind held x)
    (subst (λ m. TakesAtMost (document_most limit held x) x m) h.unread h.taken)
    (subst (λ m. IfSome m (λ y. (failed ≡ true) ⊎ TakesAtMost (more y) y rest)) h.unread then)

-- of a key set that is read, and behind it
pub behind_keys_taken : (most : ℕ) (held : Option (List ℕ)) (x octets : List ℕ) (mid rest : Option (List ℕ)) (failed : Bool) (set : KeyList)
    → TakesDocument LONGEST_KEY_SET held x octets mid → key_set_of octets ≡ Ok set → IfSome mid (λ y. (failed ≡ true) ⊎ TakesAtMost most y rest) → (failed ≡ true) ⊎ TakesAtMost (keys_most most held x) x rest
behind_keys_taken most held x octets mid rest failed set h is then =
    subst (λ k. (failed ≡ true) ⊎ TakesAtMost (document_most LONGEST_KEY_SET held x + behind_keys most k) x rest) (sym is ∙ ap key_set_of h.octets_are)
    (document_then_stops LONGEST_KEY_SET (λ y. most) held x octets mid rest failed h then)

-- the answer under a policy that is read
pub policy_read : (tell : Printer) {A E : Type 0} (view : A → Answer) (r : Result A E) (vs : Settings → List Meaning) (now : ℕ) (h : Held) (p : Settings) (x octets : List ℕ) (mid : Option (List ℕ)) (failed : Bool)
    → TakesDocument LONGEST_POLICY h.policy x octets mid → policy_of octets ≡ Ok p → IfSome mid (λ y. IfOk r (λ a. view a ≡ unless_read_failed tell failed (keys_answer tell vs now h p y)))
    → IfOk r (λ a. view a ≡ verify_answer tell vs now h failed x)
policy_read tell view r vs now h p x octets mid failed d is then =
    subst (λ k. IfOk r (λ a. view a ≡ unless_read_failed tell failed (under_policy tell vs now h k (behind h.policy x)))) (sym is ∙ ap policy_of d.octets_are)
    (subst (λ m. IfSome m (λ y. IfOk r (λ a. view a ≡ unless_read_failed tell failed (keys_answer tell vs now h p y)))) d.unread then)

-- ---- lines that are too long

pub keys_too_long : (z : List ℕ) → LONGEST_KEY_SET < length z → key_set_of z ≡ Err keys.TooLong
unfolding key_set_of
keys_too_long z long = let is : nat_lt LONGEST_KEY_SET (length z) ≡ true = grind (arith, nat_tests, long) in rw is refl

pub policy_too_long : (z : List ℕ) → LONGEST_POLICY < length z → policy_of z ≡ Err policy.TooLong
unfolding policy_of
policy_too_long z long = let is : nat_lt LONGEST_POLICY (length z) ≡ true = grind (arith, nat_tests, long) in rw is refl

pub keys_line_too_long : (tell : Printer) (vs : Settings → List Meaning) (now : ℕ) (h : Held) (p : Settings) (x : List ℕ) (failed : Bool) → failed ≡ false → LONGEST_KEY_SET < length (document h.keys x)
    → tell.keys_refused keys.TooLong ≡ unless_read_failed tell failed (keys_answer tell vs now h p x)
keys_line_too_long tell vs now h p x failed works long =
    sym (ap (λ f. unless_read_failed tell f (keys_answer tell vs now h p x)) works ∙ ap (λ k. under_keys tell (vs p) now h p k (last_document h.token (behind h.keys x))) (keys_too_long (document h.keys x) long))

pub policy_line_too_long : (tell : Printer) (vs : Settings → List Meaning) (now : ℕ) (h : Held) (x : List ℕ) (failed : Bool) → failed ≡ false → LONGEST_POLICY < length (document h.policy x)
    → tell.policy_refused policy.TooLong ≡ verify_answer tell vs now h failed x
policy_line_too_long tell vs now h x failed works long =
    sym (ap (λ f. verify_answer tell vs now h f x) works ∙ ap (λ k. under_policy tell vs now h k (behind h.policy x)) (policy_too_long (document h.policy x) long))

pub issue_line_too_long : (options : OptionParts) (held : Option (List ℕ)) (x : List ℕ) (failed : Bool) → failed ≡ false → LONGEST_KEY_SET < length (document held x)
    → printed_keys_fault Lines keys.TooLong ≡ issue_answer options held failed x
issue_line_too_long options held x failed works long =
    sym (ap (λ f. issue_answer options held f x) works ∙ ap (λ k. issue_under options k (behind held x)) (keys_too_long (document held x) long))

-- ---- a rule that is refused, and a file that isn't in hand

pub rule_refused : (tell : Printer) {A E : Type 0} (view : A → Answer) (r : Result A E) (q : Terms) (rule : Result (Option Rule) AccessFault) (fault : AccessFault) (last : List ℕ → List ℕ) (known : Option (List ℕ)) (failed : Bool)
    → failed ≡ false → rule ≡ Err fault → IfOk r (λ a. view a ≡ tell.access_refused fault) → IfSome known (λ x. IfOk r (λ a. view a ≡ unless_read_failed tell failed (under_rule tell q rule (last x))))
rule_refused tell view r q rule fault last None failed works is line = tt
rule_refused tell view r q rule fault last (Some x) failed works is line =
    subst (λ (f : Bool). IfOk r (λ a. view a ≡ unless_read_failed tell f (under_rule tell q rule (last x)))) (sym works)
    (subst (λ (k : Result (Option Rule) AccessFault). IfOk r (λ a. view a ≡ under_rule tell q k (last x))) (sym is) line)

-- ---- the line of a verdict

-- the payload of the token that was read for a verdict is that of the token that the octets are
pub read_payload : (p : Settings) (x : List ℕ) (v : Verdict) (read : Option Signed) → TellsTokens → FoundMemory v → IsReadAs p x v read
    → payload_in read ≡ (token_or_none (token_of p x)).payload
read_payload p x v (Some signed) tells found is = sym (ap (λ r. (token_or_none r).payload) ((tells p x (token_view signed)).1 is))
read_payload p x v None tells found is = none_read (token_of p x) refl
  where
    none_read : (r : Result Token Fault) → token_of p x ≡ r → [] ≡ (token_or_none r).payload
    none_read (Ok token) e = absurd (is (λ lacks. subst FoundMemory lacks found) token ((tells p x token).0 e))
    none_read (Err fault) e = refl

-- the same of a report on octets in hand
pub answered_in_hand : (printing : Printing) (asked : Demands) (q : Terms) (x payload : List ℕ) → TellsReports → (r : Report) (octets : ℕ) → IsReport q x q.policy.run.work r → payload ≡ payload_of q x
    → octets ≡ work r.tries.items → FoundMemory r.verdict → (a : Answer) → a ≡ verdict_answer printing asked (moment_of q) r.verdict payload r.states.items r.tries.items octets → a ≡ token_answer printing asked q x
answered_in_hand printing asked q x payload tells r octets report payload_is counted found a line =
    let t = tells q x q.policy.run.work r report found in
    line ∙ ap (λ p. verdict_answer printing asked (moment_of q) r.verdict p r.states.items r.tries.items octets) payload_is
    ∙ ap (λ n. verdict_answer printing asked (moment_of q) r.verdict (payload_of q x) r.states.items r.tries.items n) counted
    ∙ ap (λ v. verdict_answer printing asked (moment_of q) v (payload_of q x) r.states.items r.tries.items (work r.tries.items)) t.0
    ∙ ap (λ sts. verdict_answer printing asked (moment_of q) (verdict_of q x q.policy.run.work) (payload_of q x) sts r.tries.items (work r.tries.items)) t.2
    ∙ ap (λ es. verdict_answer printing asked (moment_of q) (verdict_of q x q.policy.run.work) (payload_of q x) (states (table q x) q.policy.run.work q.policy.max_calls) es (work es)) t.1
