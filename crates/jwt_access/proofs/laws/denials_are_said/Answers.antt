use Rattle.jwt_access.proofs.DenialLaws.{granted, undenied, denial_is, is_denial}
use Rattle.jwt_access.proofs.laws.denials_are_said.Goals as goal

pub returns-clause-granted : goal.returns-clause-granted
returns-clause-granted c = λ rule at ms. (granted rule at ms, undenied rule at ms)

pub returns-clause-denied : goal.returns-clause-denied
returns-clause-denied c = λ rule at ms denial. (denial_is rule at ms denial, is_denial rule at ms denial)
