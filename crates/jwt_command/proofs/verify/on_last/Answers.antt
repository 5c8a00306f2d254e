use Rattle.std.proofs.Common.{◌+◌, option_map}
use Rattle.jwt_command.specs.Documents.{last_most}
use Rattle.jwt_command.proofs.Verifying.{nothing_taken}
use Rattle.jwt_command.proofs.verify.on_last.Goals as goal

pub returns-clause-stops : goal.returns-clause-stops
returns-clause-stops g c =
    nothing_taken (λ x. last_most (c.args.terms.now.policy.now.run.limit + 1) (option_map (λ t. t.now) c.args.token)) (g.R.Source.remaining c.args.r.now) (g.R.Source.failed c.args.r.now)
