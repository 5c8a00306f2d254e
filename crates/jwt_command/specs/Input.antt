-- A command's input.
use Rattle.std.specs.Prelude.{◌≡◌, ◌≤◌, ◌<◌, ℕ, Bool, true, false, List, length, Result, Ok, Err}
use Rattle.jwt_text.specs.Intake.{Bounded}
use Rattle.jwt_text.specs.declared.fault.TextFault.{TextFault}
use Rattle.jwt_text.specs.declared.fault.TextFault.TheVariants.{OutOfMemory, Read, TooLong}

-- the whole input is held; or a read failed; or there is more than the limit; or an allocation was refused
abbrev pub ReadsInput : ℕ → Bool → List ℕ → Result Bounded TextFault → Type 0
ReadsInput limit failed x (Ok held) = (failed ≡ false) × (held.octets ≡ x) × (length x ≤ limit)
ReadsInput limit failed x (Err Read) = failed ≡ true
ReadsInput limit failed x (Err TooLong) = (failed ≡ false) × (limit < length x)
ReadsInput limit failed x (Err OutOfMemory) = Unit {0}
ReadsInput limit failed x (Err _) = ⊥
