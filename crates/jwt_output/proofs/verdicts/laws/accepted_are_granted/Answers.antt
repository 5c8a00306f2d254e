use Rattle.jwt_output.specs.fields.Verdicts.{evidence}
use Rattle.jwt_output.proofs.Passing.{passes}
use Rattle.jwt_output.proofs.verdicts.laws.accepted_are_granted.Goals as goal

pub returns : goal.returns
returns c = λ printing demands at verdict payload states tries work. passes c.denials_are_said.ensures.granted c.paths_are_spelled.ensures printing demands at verdict payload (evidence states tries work)
