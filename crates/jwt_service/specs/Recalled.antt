-- A memory of accepted tokens beside a service.
use Rattle.std.specs.Prelude.{◌≡◌, ℕ, Bool, true, false, List}
use Rattle.jwt_mac.specs.Verifying.{Meaning}
use Rattle.jwt_request.specs.declared.scheme.Scheme.{Scheme}
use Rattle.jwt_memory.specs.declared.memory.Memory.{Memory}
use Rattle.jwt_memory.specs.Kept.{AreKept}
use Rattle.jwt_memory.specs.Outcomes.{IsFound}
use Rattle.jwt_service.specs.declared.accepting.ShownToken.{ShownToken}
use Rattle.jwt_service.specs.declared.call.Call.{Call}
use Rattle.jwt_service.specs.declared.service.Service.{Service}
use Rattle.jwt_service.specs.Issuers.{IsChosen}
use Rattle.jwt_service.specs.Admission.{IsToken}

-- The memory is of the service's own issuer: at every moment the report on each token that it holds, by that policy, those keys and these verifiers, is the one that
-- its claims come to then.
abbrev pub IsMemoryOf : Service → List Meaning → Memory → Type 0
IsMemoryOf service = AreKept service.issuer.policy.now service.issuer.keys.now

-- what is said to be remembered is the token that the request shows: it is judged by the service's own issuer, and the memory held all its octets
abbrev pub IsRecalled : Service → Call → Memory → Bool → Type 0
IsRecalled service call memory false = Unit {0}
IsRecalled service call memory true = (scheme : Scheme) × (token : List ℕ)
    × IsToken service call scheme token × IsChosen service token service.issuer × IsFound true memory token service.issuer.policy.now.run.work

-- ---- Cited by contracts of private functions alone

abbrev pub AreStillKeptWhere : Bool → List Meaning → ShownToken → Memory → Memory → Type 0
AreStillKeptWhere true verifiers shown before after = AreKept shown.issuer.policy.now shown.issuer.keys.now verifiers after
AreStillKeptWhere false verifiers shown before after = after ≡ before

-- the memory is of the issuer that the token is judged by, if that is the service's own; else it is as it was
abbrev pub AreStillKept : List Meaning → ShownToken → Memory → Memory → Type 0
AreStillKept verifiers shown before after = AreStillKeptWhere shown.own verifiers shown before after
