use Rattle.std.proofs.Common.{ap}
use Rattle.std.specs.Prelude.{Err}
use Rattle.jwt_command.proofs.InputLemmas.{holds_nothing, reads_input, takes_all, takes_at_most}
use Rattle.jwt_command.proofs.input.whole.read_input.Goals as goal

pub returns-in-Ok-clause-taken : goal.returns-in-Ok-clause-taken
returns-in-Ok-clause-taken g c =
    takes_all (Unit {0}) (g.R.Source.remaining c.args.r.now) tt c.args.limit c.new-intake.result c.read_from.new.self (g.R.Source.remaining c.read_from.new.source) (g.R.Source.failed c.read_from.new.source)
    c.new-intake.ensures c.in-Ok.ensures.octets

pub returns-in-Err-clause-input : goal.returns-in-Err-clause-input
returns-in-Err-clause-input g c =
    reads_input (Unit {0}) (g.R.Source.remaining c.args.r.now) c.in-Err.fault c.args.limit c.new-intake.result c.read_from.new.self (g.R.Source.remaining c.read_from.new.source) (g.R.Source.failed c.read_from.new.source)
    c.new-intake.ensures c.in-Err.ensures.octets (λ read. (c.in-Err.ensures.read (ap Err read)).0) (λ long. c.in-Err.ensures.working (holds_nothing c.args.limit c.new-intake.result c.new-intake.ensures) (ap Err long))

pub returns-in-Err-clause-taken : goal.returns-in-Err-clause-taken
returns-in-Err-clause-taken g c =
    takes_at_most (Unit {0}) (g.R.Source.remaining c.args.r.now) c.in-Err.fault c.args.limit c.new-intake.result c.read_from.new.self (g.R.Source.remaining c.read_from.new.source) (g.R.Source.failed c.read_from.new.source)
    c.new-intake.ensures c.in-Err.ensures.octets (λ read. (c.in-Err.ensures.read (ap Err read)).0)
