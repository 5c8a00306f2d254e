-- A token judged by the proved verifiers.
use Rattle.std.specs.Prelude.{ℕ, ℤ, List, Option, Some, None}
use Rattle.jwt_verify.specs.Reports.{IsReport, terms}
use Rattle.jwt_verify.specs.declared.report.Report.{Report}
use Rattle.jwt_memory.specs.declared.memory.Memory.{Memory}
use Rattle.jwt_handles.specs.declared.state.State.{State}
use Rattle.jwt_handles.specs.declared.state.Last.{Last}
use Rattle.jwt_handles.specs.declared.grounds.Documents.{Documents}
use Rattle.jwt_handles.specs.declared.report.FowReport.{FowReport}
use Rattle.jwt_handles.specs.ProvedKept.{proved_meanings}
use Rattle.jwt_handles.specs.Remembering.{IsHeldIn}
use Rattle.jwt_handles.specs.Reports.{Says}

-- The verdict and the numbers are those of validate's contract on the octets, by the proved verifiers, and this is kept of its report:
-- whether it is remembered or not.
abbrev pub IsProved : Documents × Option Memory → ℤ → List ℕ → FowReport → Last → Type 0
IsProved grounds now octets said last = (report : Report)
    × IsReport (terms grounds.0.policy grounds.0.keys now proved_meanings) octets grounds.0.policy.run.work report
    × IsHeldIn last.remembered grounds.1 octets grounds.0.policy.run.work
    × Says report said last

-- the report is judged so, and is what the state that is held keeps
abbrev pub IsProvedBy : State → ℤ → List ℕ → FowReport → Option State → Type 0
IsProvedBy state now octets said None = ⊥
IsProvedBy state now octets said (Some held) = IsProved state.grounds now octets said held.last
