-- The result of reading an entry of a key set, where memory suffices.
use Rattle.std.specs.Prelude.{◌≡◌, Result, Ok, Err}
use Rattle.jwt_keys.specs.declared.skip.SkipReason.{SkipReason}
use Rattle.jwt_keys.specs.declared.fault.EntryFault.{EntryFault}
use Rattle.jwt_keys.specs.declared.fault.EntryFault.TheVariants.{OutOfMemory, Skipped}

-- What a call answered, seen by view, is this value or this reason to skip, unless memory ran out.
abbrev pub ReadsAs : {X Y : Type 0} → (X → Y) → Result X EntryFault → Result Y SkipReason → Type 0
ReadsAs view (Ok x) answer = answer ≡ Ok (view x)
ReadsAs view (Err OutOfMemory) answer = Unit {0}
ReadsAs view (Err (Skipped reason)) answer = answer ≡ Err reason
