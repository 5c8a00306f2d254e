-- Whatever is let through is of one issuer.
use Rattle.std.proofs.Common.{◌≡◌, ◌⊎◌, ℕ, List, sym, subst, inl, inr}
use Rattle.std.specs.List.{Contains}
use Rattle.std.proofs.lemmas.Option.{slice_get_within, get_or_from_slice_get}
use Rattle.serde_json.specs.Data.{Members}
use Rattle.jwt_mac.specs.Verifying.{Meaning}
use Rattle.jwt_service.specs.declared.books.Books.{Books}
use Rattle.jwt_service.specs.declared.call.Call.{Call}
use Rattle.jwt_service.specs.declared.service.Issuer.{Issuer}
use Rattle.jwt_service.specs.declared.service.Service.{Service}
use Rattle.jwt_service.specs.Issuers.{IsChosen}
use Rattle.jwt_service.specs.Admission.{IsAdmitted}
use Rattle.jwt_service.specs.Laws.{IsOfOneIssuer}

among : (service : Service) (octets : List ℕ) (issuer : Issuer) → IsChosen service octets issuer → (issuer ≡ service.issuer) ⊎ Contains service.others.now issuer
among service octets issuer (inl own) = inl own.0
among service octets issuer (inr (not, (place, is, for, before))) =
    inr (place, slice_get_within service.others.now place issuer is, get_or_from_slice_get service.others.now place issuer issuer is)

pub of_one_issuer : (service : Service) (verifiers : List Meaning) (call : Call) (old new : Books) (claims : Members)
    → IsAdmitted service verifiers call old claims new → IsOfOneIssuer service verifiers call claims
of_one_issuer service verifiers call old new claims admitted =
    let passed = admitted.passed in
    let accepted = admitted.holds.before.before.before.before.before in
    let it : IsOfOneIssuer service verifiers call passed.claims = record {
      issuer = passed.issuer;
      among = among service admitted.holds.token passed.issuer accepted.chosen;
      token = admitted.holds.token;
      alg = admitted.holds.alg;
      accepted = accepted.accepted;
      named = accepted.accepted.2.hold.issuer;
    } in
    subst (λ (m : Members). IsOfOneIssuer service verifiers call m) (sym admitted.its_claims) it
