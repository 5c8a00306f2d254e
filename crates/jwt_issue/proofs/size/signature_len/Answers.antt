use Rattle.jwt_issue.specs.Views.{signer_parts}
use Rattle.jwt_issue.proofs.Lengths.{length_signature}
use Rattle.jwt_issue.proofs.size.signature_len.Goals as goal

pub returns-clause-is : goal.returns-clause-is
returns-clause-is c = λ payload.
    rw (length_signature c.tags_are_digests.ensures payload (signer_parts c.args.signer.now), c.digest.ensures)
