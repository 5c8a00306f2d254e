-- Proofs cite a bar by the name of its fault, wherever its row stands.
use Rattle.std.proofs.Common.{◌≡◌, ℕ, zero, suc, Bool, true, false, if◌then◌else◌, List, [], ◌∷◌, Option, Some, None}
use Rattle.std.specs.Str.{bytes_eq}
use Rattle.jwt_text.specs.Rows.{Row, NoRow}
use Rattle.jwt_policy.specs.declared.sig_fault.SigFault.{SigFault}
use Rattle.jwt_policy.specs.FaultNames.{sig_fault_name}

-- the first row of this fault
abbrev pub row_named : List ℕ → List (Row SigFault) → Option (Row SigFault)
row_named name [] = None
row_named name (r ∷ rows) = if bytes_eq (sig_fault_name r.answer) name then Some r else row_named name rows

pub row_fails : (name : List ℕ) (rows : List (Row SigFault)) (r : Row SigFault) → NoRow rows → row_named name rows ≡ Some r → r.holds ≡ false
row_fails name [] r none is = absurd cc
row_fails name (q ∷ rows) r none is = by (bytes_eq (sig_fault_name q.answer) name) is (row_fails name rows r (λ k s at. none (suc k) s at))
  where
    by : (b : Bool) → (if b then Some q else row_named name rows) ≡ Some r → (row_named name rows ≡ Some r → r.holds ≡ false) → r.holds ≡ false
    by true here later = none zero r here
    by false is later = later is
