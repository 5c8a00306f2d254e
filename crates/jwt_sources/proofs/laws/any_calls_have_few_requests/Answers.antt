use Rattle.std.proofs.Common.{ap, arith}
use Rattle.jwt_sources.proofs.Ranks.{left_in}
use Rattle.jwt_sources.proofs.Requests.{requests_after}
use Rattle.jwt_sources.proofs.laws.any_calls_have_few_requests.Goals as goal

pub returns : goal.returns
returns g c = λ first last calls place source new run is_s is_t none.
    let few = requests_after first last calls place source new run is_s is_t (ap left_in none) in omega (arith, few)
