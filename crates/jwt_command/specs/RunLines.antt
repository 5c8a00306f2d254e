-- The end of a run of `verify --lines`.
use Rattle.std.specs.Prelude.{ℕ, Bool, List, Option, Some, Result, Ok, Err}
use Rattle.jwt_mac.specs.Verifying.{Meaning}
use Rattle.jwt_keys.specs.KeySets.{KeyList, key_set_of}
use Rattle.jwt_keys.specs.declared.fault.KeysFault.{KeysFault}
use Rattle.jwt_policy.specs.Document.{policy_of}
use Rattle.jwt_policy.specs.Settings.{Settings}
use Rattle.jwt_policy.specs.declared.policy_fault.PolicyFault.{PolicyFault}
use Rattle.jwt_access.specs.Rules.{Rule}
use Rattle.jwt_access.specs.declared.access_fault.AccessFault.{AccessFault}
use Rattle.jwt_command.specs.Access.{rule_in_hand}
use Rattle.jwt_command.specs.Lines.{GivesLines, with_held}
use Rattle.jwt_output.specs.Printed.{Answer, Prints}
use Rattle.jwt_output.specs.verdicts.Printer.{Printer}
use Rattle.jwt_command.specs.Verify.{terms_of_keys}

-- what went out before and after, whether the writer has failed, and the status
pub record Outcome : Type 0 where
  pub before : Option (List ℕ)
  pub after : Option (List ℕ)
  pub failed : Bool
  pub status : ℕ

abbrev pub ends : (before after : Option (List ℕ)) → Bool → ℕ → Outcome
ends before after failed status = record { before = before; after = after; failed = failed; status = status }

abbrev pub Printed : Answer → Outcome → Type 0
Printed a o = Prints a o.before o.after o.failed o.status

-- under a policy, a key set and an access rule, if one is asked: a verdict for each line of x, by what a clock says, told by this printer
abbrev pub LinesByRule : Printer → List Meaning → (ℕ → List ℕ → ℕ → Type 0) → Option ℕ → Settings → KeyList → Result (Option Rule) AccessFault → List ℕ → Bool → Outcome → Type 0
LinesByRule tell verifiers says now p set (Ok rule) x fails o =
    GivesLines (λ m l. tell.token rule (terms_of_keys verifiers m p set) l) tell.read_failed (with_held p.run.limit says) now x fails o.before o.after o.failed o.status
LinesByRule tell verifiers says now p set (Err fault) x fails o = Printed (tell.access_refused fault) o

abbrev pub LinesByKeys : Printer → List Meaning → (ℕ → List ℕ → ℕ → Type 0) → Option ℕ → Settings → Result KeyList KeysFault → Result (Option Rule) AccessFault → List ℕ → Bool → Outcome → Type 0
LinesByKeys tell verifiers says now p (Ok set) rule x fails o = LinesByRule tell verifiers says now p set rule x fails o
LinesByKeys tell verifiers says now p (Err fault) rule x fails o = Printed (tell.keys_refused fault) o

abbrev pub LinesByPolicy : Printer → List Meaning → (ℕ → List ℕ → ℕ → Type 0) → Option ℕ → Result Settings PolicyFault → Result KeyList KeysFault → Result (Option Rule) AccessFault → List ℕ → Bool → Outcome → Type 0
LinesByPolicy tell verifiers says now (Ok p) set rule x fails o = LinesByKeys tell verifiers says now p set rule x fails o
LinesByPolicy tell verifiers says now (Err fault) set rule x fails o = Printed (tell.policy_refused fault) o

-- where the policy and the key set are in hand
abbrev pub LinesInHand : Printer → List Meaning → (ℕ → List ℕ → ℕ → Type 0) → Option ℕ → Option (List ℕ) → Option (List ℕ) → Option (List ℕ) → List ℕ → Bool → Outcome → Type 0
LinesInHand tell verifiers says now (Some policy) (Some keys) access x fails o =
    LinesByPolicy tell verifiers says now (policy_of policy) (key_set_of keys) (rule_in_hand access) x fails o
LinesInHand tell verifiers says now policy keys access x fails o = Printed tell.read_failed o
