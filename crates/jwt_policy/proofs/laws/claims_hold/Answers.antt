use Rattle.jwt_policy.proofs.ClaimsLemmas.{claims_hold, holds_unrefused}
use Rattle.jwt_policy.proofs.laws.claims_hold.Goals as goal

pub returns : goal.returns
returns c = λ p ms now. (claims_hold p ms now, holds_unrefused p ms now)
