-- The memory of a validator.
use Rattle.std.specs.Prelude.{◌≡◌, ℕ, Bool, true, false, List, [], Option, Some, None}
use Rattle.jwt_memory.specs.declared.memory.MemoryEntry.{MemoryEntry}
use Rattle.jwt_memory.specs.declared.memory.Memory.{Memory}
use Rattle.jwt_memory.specs.Entries.{Holds}
use Rattle.jwt_handles.specs.declared.state.State.{State}
use Rattle.jwt_handles.specs.Documents.{documents}

-- ---- a verdict that came out of a memory

-- the memory keeps all these octets, accepted under this ceiling
abbrev pub Knows : Option Memory → List ℕ → ℕ → Type 0
Knows None octets ceiling = ⊥
Knows (Some memory) octets ceiling = (entry : MemoryEntry) × Holds memory entry × (entry.octets.items ≡ octets) × (entry.ceiling ≡ ceiling)

-- what is remembered is known to the memory
abbrev pub IsHeldIn : Bool → Option Memory → List ℕ → ℕ → Type 0
IsHeldIn false memory octets ceiling = Unit {0}
IsHeldIn true memory octets ceiling = Knows memory octets ceiling

-- ---- what becomes of the memory of a state

-- a memory of at most so many tokens of at most so many octets, which keeps none yet; no memory where that is none
abbrev pub IsMemoryFor : ℕ → ℕ → Option Memory → Type 0
IsMemoryFor tokens octets None = tokens ≡ 0
IsMemoryFor tokens octets (Some memory) = (memory.table.cap ≡ tokens) × (memory.longest ≡ octets) × (memory.table.entries ≡ [])

-- from now on so many tokens of so many octets are remembered, and nothing else has changed
abbrev pub IsRemembering : ℕ → ℕ → State → State → Type 0
IsRemembering tokens octets before after = IsMemoryFor tokens octets after.grounds.1
    × (documents after ≡ documents before) × (after.last ≡ before.last)

abbrev pub Remembers : ℕ → ℕ → State → Option State → Type 0
Remembers tokens octets before None = ⊥
Remembers tokens octets before (Some after) = IsRemembering tokens octets before after
