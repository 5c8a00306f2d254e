use Rattle.std.proofs.Common.{sym}
use Rattle.jwt_text.proofs.ObjectTextLemmas.{object_is}
use Rattle.jwt_text.proofs.read.object_with.Goals as goal

pub returns-in-Some-clause-answer : goal.returns-in-Some-clause-answer
returns-in-Some-clause-answer c = λ ok. sym ((object_is c.args.octets.now _).1 c.in-Some.ensures)
