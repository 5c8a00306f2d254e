use Rattle.std.proofs.Common.{◌≡◌, ◌≤◌, ◌+◌, ◌*◌, [], subst, ◌∙◌, zero-add}
use Rattle.jwt_request.specs.renewal.History.{moment}
use Rattle.jwt_request.specs.renewal.Runs.{asked}
use Rattle.jwt_sources.specs.Runs.{begun_at, passed_at}
use Rattle.jwt_sources.proofs.Runs.{history_after}
use Rattle.jwt_sources.proofs.laws.any_calls_are_few.Goals as goal

pub returns : goal.returns
returns g c = λ first last calls place source new run is_s is_t st.
    let it = history_after first last calls place source new [] run is_s is_t st in
    let few = c.fetches_are_few.ensures new.renewal.times it.history it.stands.run in
    let count : asked it.history ≡ begun_at place calls = it.begun ∙ zero-add (begun_at place calls) in
    let spent : moment it.history ≡ passed_at place source.renewal.heard calls = it.spent_is ∙ zero-add (passed_at place source.renewal.heard calls) in
    let one = subst (λ n. n * new.renewal.times.cool_down ≤ moment it.history + new.renewal.times.cool_down) count few in
    subst (λ n. begun_at place calls * new.renewal.times.cool_down ≤ n + new.renewal.times.cool_down) spent one
