-- The output of `jwt policy`: each member of a policy or of a service document, the uses of keys, and the advice.
use Rattle.std.specs.Prelude.{ℕ, Bool, true, false, List, [], ◌∷◌, if◌then◌else◌}
use Rattle.std.specs.List.{list_any}
use Rattle.jwt_advice.specs.Findings.{Findings}
use Rattle.jwt_advice.specs.declared.notes.Note.{Note}

-- ---- the answers

-- 1 where something ought to be written otherwise
abbrev pub status_of : List Note → ℕ
status_of [] = 0
status_of (note ∷ notes) = 1

-- of a service, where anything is advised of one issuer at least
abbrev pub is_advised : List Note → Bool
is_advised [] = false
is_advised (note ∷ notes) = true

abbrev pub service_status : List Findings → ℕ
service_status found = if list_any (λ f. is_advised f.notes) found then 1 else 0
