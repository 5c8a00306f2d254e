use Rattle.jwt_output.proofs.fields.verdict.put_spot.Goals as goal

pub returns-in-Signature : goal.returns-in-Signature
returns-in-Signature c = rw c.in-Signature.is c.put_part-in-Signature.ensures
