-- The document that is refused, from what was read of it.

use Rattle.std.proofs.Common.{◌≡◌, ◌≤◌, ◌<◌, ◌↔◌, ⊎_elim, IsTrue, ℕ, ◌+◌, Bool, true, false, List, length, take, Option, Result, Ok, IfOk, IfSome, refl, sym, ap, subst, ◌∙◌, arith, nat_lt, if◌then◌else◌}
use Rattle.std.proofs.lemmas.Bool.{cases_lt, iff_false}
use Rattle.std.proofs.lemmas.List.{take_all}
use Rattle.std.proofs.lemmas.Bool.Decides.{nat_tests}
use Rattle.jwt_text.specs.declared.limits.TheConstants.{LONGEST_KEY_SET}
use Rattle.jwt_mac.specs.Verifying.{Meaning}
use Rattle.jwt_jws.specs.Forms.{form_of}
use Rattle.jwt_keys.specs.KeySets.{KeyList, key_set_of}
use Rattle.jwt_keys.specs.declared.fault.KeysFault.{KeysFault}
use Rattle.jwt_policy.specs.Settings.{Settings}
use Rattle.jwt_access.specs.Rules.{Rule}
use Rattle.jwt_verify.specs.Verdict.{Terms, without_line_feed}
use Rattle.jwt_words.specs.InHand.{Held}
use Rattle.jwt_settings.specs.Seen.{Expectation}
use Rattle.jwt_settings.specs.declared.printing.Printing.{Printing}
use Rattle.jwt_output.specs.Printed.{Answer}
use Rattle.jwt_output.specs.verdicts.Printer.{Printer, printer_for, unless_read_failed}
use Rattle.jwt_command.specs.Access.{rule_in_hand, under_rule}
use Rattle.jwt_command.specs.Documents.{TakesDocument, behind, last_document}
use Rattle.jwt_command.specs.Keys.{IsListed, IsListedSet}
use Rattle.jwt_command.specs.Show.{IsShown, form_status}
use Rattle.jwt_command.specs.Verify.{keys_answer, terms_of_keys, under_keys}
use Rattle.jwt_command.proofs.Verifying.{keys_too_long}
use Rattle.jwt_command.proofs.WalkedLines.{length-take-all, printed_bounded}

-- ---- the octets that are read

is_within : (limit : ℕ) (x octets : List ℕ) → octets ≡ take (limit + 1) x → length octets ≤ limit → nat_lt limit (length x) ≡ false
is_within limit x octets is short = go (nat_lt limit (length x)) refl
  where
    go : (b : Bool) → nat_lt limit (length x) ≡ b → nat_lt limit (length x) ≡ false
    go true e =
        let long : limit < length x = grind (arith, nat_tests, e) in
        absurd (omega (arith, short, ap length is, length-take-all x (limit + 1) (omega (arith, long))))
    go false e = e

pub is_all : (limit : ℕ) (x octets : List ℕ) → octets ≡ take (limit + 1) x → length octets ≤ limit → (nat_lt limit (length x) ≡ false) × (octets ≡ x)
is_all limit x octets is short =
    let within = is_within limit x octets is short in
    let few : length x ≤ limit = grind (arith, nat_tests, within) in
    (within, is ∙ take_all (limit + 1) x (omega (arith, few)))

-- no more than the limit are held
pub not_longer : (longer : Bool) (n m : ℕ) → (IsTrue longer ↔ (n < m)) → longer ≡ false → m ≤ n
not_longer longer n m is refused = ⊎_elim (λ below. absurd (iff_false is refused below)) (λ above. above) (cases_lt n m)

-- ---- a key set

pub keys_read : (tell : Printer) {A E : Type 0} (view : A → Answer) (r : Result A E) (vs : Settings → List Meaning) (now : ℕ) (h : Held) (p : Settings) (set : KeyList) (x octets : List ℕ) (mid : Option (List ℕ)) (failed : Bool)
    → TakesDocument LONGEST_KEY_SET h.keys x octets mid → key_set_of octets ≡ Ok set → IfSome mid (λ y. IfOk r (λ a. view a ≡ unless_read_failed tell failed (under_rule tell (terms_of_keys (vs p) now p set) (rule_in_hand h.access) (last_document h.token y))))
    → IfOk r (λ a. view a ≡ unless_read_failed tell failed (keys_answer tell vs now h p x))
keys_read tell view r vs now h p set x octets mid failed d is further =
    subst (λ k. IfOk r (λ a. view a ≡ unless_read_failed tell failed (under_keys tell (vs p) now h p k (last_document h.token (behind h.keys x))))) (sym is ∙ ap key_set_of d.octets_are)
    (subst (λ m. IfSome m (λ y. IfOk r (λ a. view a ≡ unless_read_failed tell failed (under_rule tell (terms_of_keys (vs p) now p set) (rule_in_hand h.access) (last_document h.token y))))) d.unread further)

-- a key set that is all of the input: no more of it is looked at than one octet past the limit
pub set_bounded : (x : List ℕ) → key_set_of (take (LONGEST_KEY_SET + 1) x) ≡ key_set_of x
set_bounded x = go (nat_lt LONGEST_KEY_SET (length x)) refl
  where
    go : (b : Bool) → nat_lt LONGEST_KEY_SET (length x) ≡ b → key_set_of (take (LONGEST_KEY_SET + 1) x) ≡ key_set_of x
    go true e = let long : LONGEST_KEY_SET < length x = grind (arith, nat_tests, e) in
        keys_too_long (take (LONGEST_KEY_SET + 1) x) (omega (arith, length-take-all x (LONGEST_KEY_SET + 1) (omega (arith, long)))) ∙ sym (keys_too_long x long)
    go false e = let short : length x ≤ LONGEST_KEY_SET = grind (arith, nat_tests, e) in ap key_set_of (take_all (LONGEST_KEY_SET + 1) x (omega (arith, short)))

-- ---- a token

-- the answer to what was taken of a token
pub token_taken : (printing : Printing) (e : Option Expectation) (rule : Option Rule) (q : Terms) (x octets : List ℕ) (limit : ℕ) (failed : Bool) (a : Answer) → limit ≡ q.policy.run.limit → octets ≡ take (limit + 1) x → failed ≡ false
    → a ≡ (printer_for printing e).token rule q octets → a ≡ unless_read_failed (printer_for printing e) failed ((printer_for printing e).token rule q x)
token_taken printing e rule q x octets limit failed a l o works is =
    is ∙ ap ((printer_for printing e).token rule q) (o ∙ ap (λ n. take (n + 1) x) l) ∙ printed_bounded printing e rule q x
    ∙ sym (ap (λ f. unless_read_failed (printer_for printing e) f ((printer_for printing e).token rule q x)) works)

-- ---- what is shown, and what is listed

pub shown_is : (printing : Printing) (limit : ℕ) (x octets : List ℕ) (failed : Bool) (a : Answer) → octets ≡ take (limit + 1) x → length octets ≤ limit → failed ≡ false
    → a.status ≡ form_status (form_of 32 (without_line_feed true octets)) → IsShown printing limit failed x a
shown_is printing limit x octets failed a taken short works is =
    let all = is_all limit x octets taken short in
    subst (λ (f : Bool). IsShown printing limit f x a) (sym works)
    (is ∙ ap (λ o. form_status (form_of 32 (without_line_feed true o))) all.1
    ∙ sym (ap (λ b. if b then 1 else form_status (form_of 32 (without_line_feed true x))) all.0))

pub set_listed : (printing : Printing) (x octets : List ℕ) (failed : Bool) (set : Result KeyList KeysFault) (a : Answer) → octets ≡ take (LONGEST_KEY_SET + 1) x → failed ≡ false
    → key_set_of octets ≡ set → IsListedSet printing set a → IsListed printing failed x a
set_listed printing x octets failed set a taken works is listed =
    subst (λ (f : Bool). IsListed printing f x a) (sym works)
    (subst (λ (k : Result KeyList KeysFault). IsListedSet printing k a) (sym (sym (set_bounded x) ∙ ap key_set_of (sym taken) ∙ is)) listed)
