-- The status of `jwt policy`, by what it advises, and its answer to a policy and a key set that are refused. Its other text is held by rows.
use Rattle.std.specs.Prelude.{◌≡◌, ℕ, List, [], Option, Some, None, Result, Ok, Err, unwrap_or}
use Rattle.jwt_mac.specs.Verifying.{Meaning}
use Rattle.jwt_keys.specs.KeySets.{KeyList, key_set_of}
use Rattle.jwt_keys.specs.Numbers.{numbers}
use Rattle.jwt_keys.specs.declared.fault.KeysFault.{KeysFault}
use Rattle.jwt_policy.specs.Document.{policy_of}
use Rattle.jwt_policy.specs.Settings.{Settings}
use Rattle.jwt_policy.specs.declared.policy_fault.PolicyFault.{PolicyFault}
use Rattle.jwt_advice.specs.Findings.{found_alone, found_with}
use Rattle.jwt_advice.specs.Private.{entries_of, is_private}
use Rattle.jwt_settings.specs.declared.printing.Printing.{Printing}
use Rattle.jwt_output.specs.verdicts.Meant.{status_of}
use Rattle.jwt_output.specs.Printed.{Answer}
use Rattle.jwt_output.specs.Refused.{printed_keys_fault, printed_policy_fault}
use Rattle.jwt_words.specs.InHand.{Held}
use Rattle.jwt_command.specs.Services.{IsServiceAnswer}

-- a policy with the key set of a document
abbrev pub IsWithKeys : Printing → List Meaning → Settings → List ℕ → Result KeyList KeysFault → Answer → Type 0
IsWithKeys printing verifiers policy octets (Ok set) a = a.status ≡ status_of (found_with policy verifiers set.keys (numbers is_private 0 (entries_of octets))).notes
IsWithKeys printing verifiers policy octets (Err fault) a = a ≡ printed_keys_fault printing fault

-- a policy, with the document of a key set, if any
abbrev pub IsMeaning : Printing → List Meaning → Settings → Option (List ℕ) → Answer → Type 0
IsMeaning printing verifiers policy None a = a.status ≡ status_of (found_alone policy).notes
IsMeaning printing verifiers policy (Some octets) a = IsWithKeys printing verifiers policy octets (key_set_of octets) a

-- the policy is looked at first
abbrev pub IsOfPolicy : Printing → List Meaning → Option (List ℕ) → Result Settings PolicyFault → Answer → Type 0
IsOfPolicy printing verifiers keys (Ok policy) a = IsMeaning printing verifiers policy keys a
IsOfPolicy printing verifiers keys (Err fault) a = a ≡ printed_policy_fault printing fault

-- the answer of two documents
abbrev pub IsDocumentsAnswer : Printing → List Meaning → List ℕ → Option (List ℕ) → Answer → Type 0
IsDocumentsAnswer printing verifiers document keys a = IsOfPolicy printing verifiers keys (policy_of document) a

-- a service document, where one is in hand, else a policy
abbrev pub IsOfHeld : Printing → List Meaning → Held → Option (List ℕ) → Answer → Type 0
IsOfHeld printing verifiers held (Some octets) a = IsServiceAnswer verifiers octets a
IsOfHeld printing verifiers held None a = IsDocumentsAnswer printing verifiers (unwrap_or held.policy []) held.keys a

-- the answer of the documents in hand
abbrev pub IsPolicyAnswer : Printing → List Meaning → Held → Answer → Type 0
IsPolicyAnswer printing verifiers held a = IsOfHeld printing verifiers held held.key a
