-- The findings on a policy, alone or with its keys.
use Rattle.std.specs.Prelude.{ℕ, List, [], ◌∷◌, ◌++◌, Bool, true, false, ◌||◌, map, Option, Some, None, option_map}
use Rattle.std.specs.List.{flat_map}
use Rattle.jwt_mac.specs.declared.algorithm.Alg.{Alg}
use Rattle.jwt_mac.specs.Verifying.{Meaning}
use Rattle.jwt_keys.specs.Keys.{KeyParts}
use Rattle.jwt_keys.specs.Numbers.{numbers}
use Rattle.jwt_policy.specs.Settings.{Settings}
use Rattle.jwt_advice.specs.Uses.{key_count}
use Rattle.jwt_advice.specs.Costs.{greatest_cost}
use Rattle.jwt_advice.specs.declared.costs.Cost.TheVariants.{Work, Calls}
use Rattle.jwt_advice.specs.Advised.{policy_advises, set_advises, concerns, every_advice}
use Rattle.jwt_advice.specs.declared.advice.Advice.{Advice}
use Rattle.jwt_advice.specs.declared.advice.Advice.TheVariants.{UnusedKey}
use Rattle.jwt_advice.specs.declared.findings.AlgKeys.{AlgKeys}
use Rattle.jwt_advice.specs.declared.findings.KeyFacts.{KeyFacts as CodeFacts}
use Rattle.jwt_advice.specs.declared.findings.Findings.{Findings as CodeFindings}
use Rattle.jwt_advice.specs.declared.notes.Note.{Note}
use Rattle.jwt_advice.specs.declared.notes.Note.TheVariants.{Whole, OfKey, PrivateEntry}

-- ---- notes: each is an advice, with what it is about

abbrev pub note_if : Bool → Advice → List Note
note_if true advice = Whole advice ∷ []
note_if false advice = []

abbrev pub notes_with : Advice → Bool → List ℕ → List Note
notes_with advice whole keys = note_if whole advice ++ map (λ number. OfKey advice number) keys

-- of the policy or of its keys as a whole, and of each key that the advice concerns
abbrev pub notes_of : Settings → List Meaning → List KeyParts → Advice → List Note
notes_of policy verifiers keys advice =
    notes_with advice (policy_advises advice policy || set_advises advice policy verifiers keys) (numbers (concerns advice policy verifiers keys) 0 keys)

-- all of a policy with its keys; `entries` are the places of those with a private member
abbrev pub notes : Settings → List Meaning → List KeyParts → List ℕ → List Note
notes policy verifiers keys entries = flat_map (notes_of policy verifiers keys) every_advice ++ map (λ place. PrivateEntry place) entries

-- all of a policy, whatever its keys
abbrev pub policy_notes : Settings → List Note
policy_notes policy = flat_map (λ advice. note_if (policy_advises advice policy) advice) every_advice

-- ---- what the keys are for, and what a token can cost

pub record Facts : Type 0 where
  pub algs : List AlgKeys
  pub unused : List ℕ
  pub work : ℕ
  pub calls : ℕ

-- how many keys can verify signatures by the algorithm
abbrev pub counted : List Meaning → List KeyParts → Alg → AlgKeys
counted verifiers keys alg = record { alg = alg; keys = key_count verifiers keys alg }

abbrev pub facts : Settings → List Meaning → List KeyParts → Facts
facts policy verifiers keys = record {
  algs = map (counted verifiers keys) policy.run.algs;
  unused = numbers (concerns UnusedKey policy verifiers keys) 0 keys;
  work = greatest_cost Work policy verifiers keys;
  calls = greatest_cost Calls policy verifiers keys;
}

-- ---- all

pub record Findings : Type 0 where
  pub facts : Option Facts
  pub notes : List Note

abbrev pub found_alone : Settings → Findings
found_alone policy = record { facts = None; notes = policy_notes policy }

abbrev pub found_with : Settings → List Meaning → List KeyParts → List ℕ → Findings
found_with policy verifiers keys entries = record { facts = Some (facts policy verifiers keys); notes = notes policy verifiers keys entries }

-- ---- what contracts see of the crate's own types

abbrev pub facts_view : CodeFacts → Facts
facts_view found = record { algs = found.algs.items; unused = found.unused.items; work = found.work; calls = found.calls }

abbrev pub findings_view : CodeFindings → Findings
findings_view found = record { facts = option_map facts_view found.facts; notes = found.notes.items }
