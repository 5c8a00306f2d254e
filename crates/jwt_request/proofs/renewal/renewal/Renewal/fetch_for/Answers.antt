use Rattle.std.proofs.Common.{rules}
use Rattle.jwt_request.proofs.renewal.renewal.Renewal.fetch_for.Goals as goal

pub returns-clause-stands : goal.returns-clause-stands
returns-clause-stands c = λ h s wants. c.begin.ensures.stands c.args.asker h s wants ((c.may_begin.ensures h s).0 (search rules))
