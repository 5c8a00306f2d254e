use Rattle.std.proofs.Common.{rules, ap}
use Rattle.std.specs.Prelude.{Err}
use Rattle.jwt_command.proofs.InputLemmas.{takes_at_most}
use Rattle.jwt_command.proofs.documents.read_document.Goals as goal

pub returns-in-Err : goal.returns-in-Err
returns-in-Err g c = record {
  read = search rules;
  limit = search rules;
  unread = search rules;
  works = search rules;
  taken = takes_at_most (Unit {0}) (g.R.Source.remaining c.args.r.now) c.in-Err.field-0 c.args.limit c.new-intake.result c.read_from.new.self (g.R.Source.remaining c.read_from.new.source) (g.R.Source.failed c.read_from.new.source)
      c.new-intake.ensures c.in-Err.ensures.octets (λ read. (c.in-Err.ensures.read (ap Err read)).0);
}
