-- The ownership of a handle: that of a validator, and those of an access rule, of a memory of tokens that count once, and of a policy for proofs.
use base.Fml.{Fml, ftrue, ffalse}
use denote.RattleType.{RattleType}
use denote.RawPtr.{Ptr}
use Rattle.std.specs.Prelude.{Bool, true, false, Option, Some, None}
use Rattle.std.specs.Box.Ownership.{box_owns}
use Rattle.std_heap.specs.contracts.Global as heap
use Rattle.std_heap.specs.contracts.GlobalAllocator.TheImpl.{ghosts}

-- the block of a state of the type R, which the heap may free, where one is held
abbrev pub handle_owns : (R : RattleType) → heap.the_row.Denot → Bool → Ptr → Option R.Denot → Fml
handle_owns R allocator true block (Some state) = box_owns (ghosts.dealloc_token allocator) R block state
handle_owns R allocator true block None = ffalse
handle_owns R allocator false block (Some state) = ffalse
handle_owns R allocator false block None = ftrue
