-- An outcome as contracts see it.
use Rattle.std.specs.Prelude.{◌≡◌, ◌⊎◌, ℕ, Bool, true, false, List, [], Option, Some, None, option_map}
use Rattle.std.specs.Arc.{arc_value}
use Rattle.jwt_policy.specs.declared.claim_fault.ClaimFault.{ClaimFault}
use Rattle.jwt_verify.specs.declared.report.Try.{Try}
use Rattle.jwt_verify.specs.declared.report.Report.{Report}
use Rattle.jwt_verify.specs.declared.report.Verdict.{Verdict}
use Rattle.jwt_verify.specs.declared.report.Verdict.TheVariants as verdict
use Rattle.jwt_verify.specs.Verdict.{checked}
use Rattle.jwt_memory.specs.declared.memory.Basis.{Basis}
use Rattle.jwt_memory.specs.declared.memory.MemoryEntry.{MemoryEntry}
use Rattle.jwt_memory.specs.declared.memory.Memory.{Memory}
use Rattle.jwt_memory.specs.declared.outcome.Handed.{Handed}
use Rattle.jwt_memory.specs.declared.outcome.Outcome.{Outcome}
use Rattle.jwt_memory.specs.declared.outcome.Outcome.TheVariants.{Judged, Accepted, Remembered}
use Rattle.jwt_memory.specs.Entries.{Holds}

-- the report with this verdict, and the states and the tries of a basis
abbrev pub report_of : Verdict → Basis → Report
report_of verdict basis = record { verdict = verdict; states = basis.states; tries = basis.tries }

abbrev pub acceptance_of : Basis → Verdict
acceptance_of basis = verdict.Accepted basis.signature basis.key basis.claims

-- the report that an outcome is
abbrev pub report_in : Outcome → Report
report_in (Judged report) = report
report_in (Accepted basis) = report_of (acceptance_of (arc_value basis)) (arc_value basis)
report_in (Remembered basis fault) = report_of (checked (arc_value basis).signature (arc_value basis).key (arc_value basis).claims fault) (arc_value basis)

-- the tries that were paid in this call
abbrev pub paid_in : Outcome → List Try
paid_in (Judged report) = report.tries.items
paid_in (Accepted basis) = (arc_value basis).tries.items
paid_in (Remembered basis fault) = []

-- the verdict came out of the memory
abbrev pub is_remembered : Outcome → Bool
is_remembered (Judged report) = false
is_remembered (Accepted basis) = false
is_remembered (Remembered basis fault) = true

-- ---- the payload that is handed out

-- the payload of a token that is remembered, where its claims aren't refused now
abbrev pub payload_unless : Option ClaimFault → List ℕ → Option (List ℕ)
payload_unless None payload = Some payload
payload_unless (Some fault) payload = None

-- the payload that a memory shares, or else the one that stands beside the outcome
abbrev pub payload_or : Option (List ℕ) → Outcome → Option (List ℕ)
payload_or beside (Judged report) = beside
payload_or beside (Accepted basis) = Some (arc_value basis).payload.items
payload_or beside (Remembered basis fault) = payload_unless fault (arc_value basis).payload.items

abbrev pub payload_in : Handed → Option (List ℕ)
payload_in handed = payload_or (option_map (λ v. v.items) handed.payload) handed.outcome

-- the payload that an outcome has by itself
abbrev pub shared_payload : Outcome → Option (List ℕ)
shared_payload outcome = payload_or None outcome

-- ---- what a memory holds

-- what is remembered is held by the memory: all these octets, accepted under this ceiling
abbrev pub IsFound : Bool → Memory → List ℕ → ℕ → Type 0
IsFound false memory octets ceiling = Unit {0}
IsFound true memory octets ceiling = (entry : MemoryEntry) × Holds memory entry × (entry.octets.items ≡ octets) × (entry.ceiling ≡ ceiling)

-- The memory holds nothing that it didn't before but these octets, accepted under this ceiling, where this report is their acceptance.
abbrev pub KeepsOnly : List ℕ → ℕ → Report → Memory → Memory → Type 0
KeepsOnly octets ceiling report before after = (entry : MemoryEntry) → Holds after entry
    → Holds before entry ⊎ ((entry.octets.items ≡ octets) × (entry.ceiling ≡ ceiling) × (report ≡ report_of (acceptance_of (arc_value entry.basis)) (arc_value entry.basis)))

-- The same, and what is handed out is the payload that it holds.
abbrev pub KeepsHanded : List ℕ → ℕ → Handed → Memory → Memory → Type 0
KeepsHanded octets ceiling handed before after = (entry : MemoryEntry) → Holds after entry
    → Holds before entry ⊎ ((entry.octets.items ≡ octets) × (entry.ceiling ≡ ceiling) × (report_in handed.outcome ≡ report_of (acceptance_of (arc_value entry.basis)) (arc_value entry.basis))
    × (payload_in handed ≡ Some (arc_value entry.basis).payload.items))
