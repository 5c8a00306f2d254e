-- The answer of `jwt verify`.
use Rattle.std.specs.Prelude.{ℕ, Bool, true, false, not, ◌&&◌, ◌||◌, List, [], pos, Option, Some, None, is_some, Result, Ok, Err}
use Rattle.std.specs.List.{list_any}
use Rattle.jwt_jws.specs.declared.signed.Signed.{Signed}
use Rattle.jwt_jws.specs.Views.{token as token_view}
use Rattle.jwt_mac.specs.Algorithm.{is_hmac_alg}
use Rattle.jwt_mac.specs.Verifying.{Meaning}
use Rattle.jwt_keys.specs.KeySets.{KeyList, key_set_of}
use Rattle.jwt_keys.specs.declared.fault.KeysFault.{KeysFault}
use Rattle.jwt_policy.specs.Document.{policy_of}
use Rattle.jwt_policy.specs.Settings.{Settings}
use Rattle.jwt_policy.specs.declared.policy_fault.PolicyFault.{PolicyFault}
use Rattle.jwt_verify.specs.Verdict.{Terms}
use Rattle.jwt_output.specs.Printed.{Answer}
use Rattle.jwt_words.specs.InHand.{Held}
use Rattle.jwt_command.specs.Access.{rule_in_hand, under_rule}
use Rattle.jwt_command.specs.Documents.{behind, document, last_document}
use Rattle.jwt_output.specs.verdicts.Printer.{Printer, unless_read_failed}

-- ---- the token, behind the lines of the policy and of the key set

-- the verifiers for public keys, where they are asked for
abbrev pub verifiers_if : Bool → List Meaning → List Meaning
verifiers_if true verifiers = verifiers
verifiers_if false verifiers = []

-- A token that is in hand is verified by public keys also where that isn't asked for and the policy allows an algorithm by public keys.
abbrev pub is_by_public_keys : Bool → Held → Settings → Bool
is_by_public_keys asked held p = asked || is_some held.token && list_any (λ alg. not (is_hmac_alg alg)) p.run.algs

abbrev pub verifiers_for : Bool → Held → List Meaning → Settings → List Meaning
verifiers_for asked held verifiers p = verifiers_if (is_by_public_keys asked held p) verifiers

-- a key set, with verifiers for public keys
abbrev pub terms_of_keys : List Meaning → ℕ → Settings → KeyList → Terms
terms_of_keys verifiers now p set = record { policy = p; keys = set.keys; now = pos now; verifiers = verifiers }

abbrev pub under_keys : Printer → List Meaning → ℕ → Held → Settings → Result KeyList KeysFault → List ℕ → Answer
under_keys tell verifiers now held p (Ok set) x = under_rule tell (terms_of_keys verifiers now p set) (rule_in_hand held.access) x
under_keys tell verifiers now held p (Err fault) x = tell.keys_refused fault

-- the key set is in hand, or the first line of x; an access rule is in hand, if one is asked
abbrev pub keys_answer : Printer → (Settings → List Meaning) → ℕ → Held → Settings → List ℕ → Answer
keys_answer tell verifiers now held p x = under_keys tell (verifiers p) now held p (key_set_of (document held.keys x)) (last_document held.token (behind held.keys x))

abbrev pub under_policy : Printer → (Settings → List Meaning) → ℕ → Held → Result Settings PolicyFault → List ℕ → Answer
under_policy tell verifiers now held (Ok p) x = keys_answer tell verifiers now held p x
under_policy tell verifiers now held (Err fault) x = tell.policy_refused fault

-- ---- the answer

-- by the verifiers for public keys that a policy asks for, at a moment, of the documents in hand and of an input that has the others, by a reader that has
-- failed or not
abbrev pub verify_answer : Printer → (Settings → List Meaning) → ℕ → Held → Bool → List ℕ → Answer
verify_answer tell verifiers now held failed x = unless_read_failed tell failed (under_policy tell verifiers now held (policy_of (document held.policy x)) (behind held.policy x))

-- ---- Cited by contracts of private functions alone

-- the payload of the token that was read; no octets where none was
abbrev pub payload_in : Option Signed → List ℕ
payload_in (Some signed) = (token_view signed).payload
payload_in None = []
