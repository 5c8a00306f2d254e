-- What a judging adds to the memory of a validator.
use Rattle.std.specs.Prelude.{◌≡◌, ◌⊎◌, ℕ, List, Option, Some, None}
use Rattle.std.specs.Arc.{arc_value}
use Rattle.jwt_memory.specs.declared.memory.MemoryEntry.{MemoryEntry}
use Rattle.jwt_memory.specs.declared.memory.Memory.{Memory}
use Rattle.jwt_memory.specs.declared.outcome.Handed.{Handed}
use Rattle.jwt_memory.specs.Entries.{Holds}
use Rattle.jwt_memory.specs.Outcomes.{KeepsHanded, report_of, acceptance_of}
use Rattle.jwt_handles.specs.declared.state.State.{State}
use Rattle.jwt_handles.specs.declared.state.Last.{Last}
use Rattle.jwt_handles.specs.declared.report.FowReport.{FowReport}
use Rattle.jwt_handles.specs.Documents.{documents}
use Rattle.jwt_handles.specs.ProvedKept.{HasSameRoom}
use Rattle.jwt_handles.specs.Reports.{Says}

-- the entry has all these octets, under this ceiling, and what is said and kept of the judging is its acceptance
abbrev pub IsOfJudging : ℕ → List ℕ → FowReport → Last → MemoryEntry → Type 0
IsOfJudging ceiling octets said last entry = (entry.octets.items ≡ octets) × (entry.ceiling ≡ ceiling) × Says (report_of (acceptance_of (arc_value entry.basis)) (arc_value entry.basis)) said last

-- the memory keeps nothing new but this token, where the judging accepted it
abbrev pub AddsOnly : ℕ → List ℕ → FowReport → Last → Option Memory → Option Memory → Type 0
AddsOnly ceiling octets said last (Some before) (Some after) = (entry : MemoryEntry) → Holds after entry → Holds before entry ⊎ IsOfJudging ceiling octets said last entry
AddsOnly ceiling octets said last _ _ = Unit {0}

-- what a judging does to the memory
abbrev pub RemembersProved : State → List ℕ → FowReport → Option State → Type 0
RemembersProved before octets said None = ⊥
RemembersProved before octets said (Some after) = AddsOnly (documents before).policy.run.work octets said after.last before.grounds.1 after.grounds.1
    × HasSameRoom after.grounds.1 before.grounds.1

-- ---- Cited by contracts of private functions alone

-- it keeps nothing new but this token, where this outcome is its acceptance
abbrev pub AddsHanded : ℕ → List ℕ → Handed → Option Memory → Option Memory → Type 0
AddsHanded ceiling octets handed (Some before) (Some after) = KeepsHanded octets ceiling handed before after
AddsHanded ceiling octets handed _ _ = Unit {0}
