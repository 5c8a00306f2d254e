use Rattle.jwt_policy.proofs.EligibleLemmas.{eligible_is, is_eligible}
use Rattle.jwt_policy.proofs.laws.eligible_pairs.Goals as goal

pub returns : goal.returns
returns c = λ p s key verifiers. let none = c.bar_is_first_row.ensures.none p s verifiers in (eligible_is p s key verifiers none.0, is_eligible p s key verifiers none.1)
