-- What is answered of a request of which all else holds, by what a memory or a store answered.
use Rattle.std.specs.Prelude.{Bool, true, false, Option, Some, None, if◌then◌else◌}
use Rattle.jwt_possession.specs.declared.once.accepted.Entry.{Entry}
use Rattle.jwt_possession.specs.declared.once.once.Taken.{Taken}
use Rattle.jwt_possession.specs.declared.once.once.Taken.TheVariants.{New}
use Rattle.jwt_service.specs.declared.admission.Admission.{Admission}
use Rattle.jwt_service.specs.declared.admission.Admission.TheVariants.{Admitted, ProofNotNew, TokenNotNew}
use Rattle.jwt_service.specs.declared.admission.Passed.{Passed}

-- nothing was to be taken, or what was is new
abbrev pub is_new : Option Entry → Option Taken → Bool
is_new None answer = true
is_new (Some entry) (Some New) = true
is_new (Some entry) answer = false

-- its claims, where its proof is new, and so is its token; else which isn't, the proof first
abbrev pub settled : Passed → Option Taken → Option Taken → Admission
settled passed proof token =
    if is_new passed.proof proof
    then (if is_new passed.token token then Admitted passed.claims else TokenNotNew passed.scheme token)
    else ProofNotNew proof
