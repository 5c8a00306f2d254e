-- The entries of a memory.
use Rattle.std.specs.Prelude.{◌≡◌}
use Rattle.jwt_memory.specs.declared.memory.MemoryEntry.{MemoryEntry}
use Rattle.jwt_memory.specs.declared.memory.Memory.{Memory}
use Rattle.jwt_memory.specs.Tables.{Has}

-- the memory holds this entry, under some mark
abbrev pub Holds : Memory → MemoryEntry → Type 0
Holds memory = Has memory.table

-- the two have room for as many tokens of as many octets
abbrev pub HasRoomOf : Memory → Memory → Type 0
HasRoomOf memory other = (memory.table.cap ≡ other.table.cap) × (memory.longest ≡ other.longest)
