-- The table of a memory.
use Rattle.std.specs.Prelude.{ℕ, Contains}
use Rattle.lru.specs.LruCache.{LruCache}

-- it has this entry under some mark
abbrev pub Has : {MemoryEntry : Type 0} → LruCache ℕ MemoryEntry → MemoryEntry → Type 0
Has table entry = (mark : ℕ) × Contains table.entries (mark, entry)
