-- The invariant of each token that a memory keeps.
use Rattle.std.specs.Prelude.{ℕ, ℤ, List}
use Rattle.std.specs.Arc.{arc_value}
use Rattle.jwt_mac.specs.Verifying.{Meaning}
use Rattle.jwt_keys.specs.declared.set.KeySet.{KeySet}
use Rattle.jwt_policy.specs.Settings.{Settings}
use Rattle.jwt_verify.specs.Reports.{IsReport, terms}
use Rattle.jwt_memory.specs.declared.memory.Basis.{Basis}
use Rattle.jwt_memory.specs.declared.memory.MemoryEntry.{MemoryEntry}
use Rattle.jwt_memory.specs.declared.memory.Memory.{Memory}
use Rattle.jwt_memory.specs.Entries.{Holds}
use Rattle.jwt_memory.specs.Laws.{verdict_on}
use Rattle.jwt_memory.specs.Outcomes.{report_of}

-- At every moment the report on the octets under this ceiling, by this policy, these keys and these verifiers, has the states and the tries of
-- the basis, and the verdict that its claims come to then.
abbrev pub IsBasis : Settings → KeySet → List Meaning → List ℕ → ℕ → Basis → Type 0
IsBasis policy keys verifiers octets ceiling basis = (now : ℤ)
    → IsReport (terms policy keys now verifiers) octets ceiling (report_of (verdict_on (terms policy keys now verifiers) basis.signature basis.key basis.claims) basis)

-- that is so of each token that the memory holds
abbrev pub AreKept : Settings → KeySet → List Meaning → Memory → Type 0
AreKept policy keys verifiers memory = (entry : MemoryEntry) → Holds memory entry → IsBasis policy keys verifiers entry.octets.items entry.ceiling (arc_value entry.basis)

-- the memory is of every policy, all keys and all verifiers: it holds nothing
abbrev pub IsEmpty : Memory → Type 0
IsEmpty memory = (policy : Settings) (keys : KeySet) (verifiers : List Meaning) → AreKept policy keys verifiers memory
