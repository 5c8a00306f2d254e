-- The cost of issuing, taken from a budget.
use Rattle.std.specs.Prelude.{ℕ, ◌≤◌, ◌⊎◌, Result, Ok, Err}
use Rattle.jwt_issue.specs.declared.fault.IssueFault.{IssueFault}
use Rattle.jwt_issue.specs.declared.fault.IssueFault.TheVariants.{OutOfMemory, Spent}

-- How many HMACs such an answer pays for, of as many as there are pairs: all with a token, the first i with Spent(i), none with any
-- other refusal.
abbrev pub due : {X : Type 0} → ℕ → Result X IssueFault → ℕ
due all (Ok x) = all
due all (Err (Spent i)) = i
due all (Err _) = 0

-- Where Paid n says that the first n of the signatures are paid: as many as are due on Ok, the first i after Spent(i),
-- no more than are due where memory ran out, and none after any other refusal.
abbrev pub Pays : {X : Type 0} → Result X IssueFault → ℕ → (ℕ → Type 0) → Type 0
Pays (Ok x) most Paid = Paid most
Pays (Err (Spent i)) most Paid = Paid i
Pays (Err OutOfMemory) most Paid = (n : ℕ) × (n ≤ most) × Paid n
Pays (Err _) most Paid = Paid 0

-- ---- Cited by contracts of private functions alone

-- the same of the one signature
abbrev pub PaysOnce : {X : Type 0} → Result X IssueFault → (ℕ → Type 0) → Type 0
PaysOnce (Ok x) Paid = Paid 1
PaysOnce (Err OutOfMemory) Paid = Paid 0 ⊎ Paid 1
PaysOnce (Err _) Paid = Paid 0
