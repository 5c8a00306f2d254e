-- One step more of the chain.
use Rattle.std.proofs.Common.{◌≡◌, List, Option, None, Result, Ok, subst}
use Rattle.jwt_mac.specs.Verifying.{Meaning}
use Rattle.jwt_possession.specs.declared.possession.Possession.{Possession}
use Rattle.jwt_service.specs.declared.accepting.AcceptedToken.{AcceptedToken}
use Rattle.jwt_service.specs.declared.admission.Refusal.{Refusal}
use Rattle.jwt_service.specs.declared.call.Call.{Call}
use Rattle.jwt_service.specs.declared.service.Service.{Service}
use Rattle.jwt_service.specs.Rule.{MeetsRule}
use Rattle.jwt_service.specs.Expecting.{IsAsExpected}
use Rattle.jwt_service.specs.Proving.{IsHeld}
use Rattle.jwt_service.specs.Unshown.{HasUnshown}
use Rattle.jwt_service.specs.Admission.{Subject, IsAccepted, IsAcceptedAs, subject_of, IsGranted, IsExpected, IsProved, IsBound}

module _ {service : Service} {verifiers : List Meaning} {call : Call} where
  pub accepted_of : {result : Result AcceptedToken Refusal} {it : AcceptedToken} → IsAcceptedAs service verifiers call result → result ≡ Ok it → IsAccepted service verifiers call (subject_of it)
  accepted_of accepted is = subst (λ (r : Result AcceptedToken Refusal). IsAcceptedAs service verifiers call r) is accepted

module _ {service : Service} {verifiers : List Meaning} {call : Call} {it : Subject} where
  pub granted : IsAccepted service verifiers call it → MeetsRule service it.issuer call it.claims → IsGranted service verifiers call it
  granted before rule = record { before = before; rule = rule }

  pub expected : IsGranted service verifiers call it → IsAsExpected call it.claims it.alg → IsExpected service verifiers call it
  expected before fits = record { before = before; expected = fits }

module _ {service : Service} {verifiers : List Meaning} {call : Call} {it : Subject} {possession : Option Possession} where
  pub proves : IsExpected service verifiers call it → IsHeld service verifiers call it.scheme it.token it.claims possession → IsProved service verifiers call it possession
  proves before held = record { before = before; held = held }

  pub bound : IsProved service verifiers call it possession → HasUnshown service call it.claims possession None → IsBound service verifiers call it possession
  bound before shown = record { before = before; shown = shown }
