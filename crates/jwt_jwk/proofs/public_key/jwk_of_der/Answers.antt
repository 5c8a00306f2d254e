use Rattle.std.proofs.Common.{◌∙◌}
use Rattle.jwt_jwk.proofs.Files.{both_refused}
use Rattle.jwt_jwk.proofs.public_key.jwk_of_der.Goals as goal

pub returns-in-Err-jwk_of_block-clause-only : goal.returns-in-Err-jwk_of_block-clause-only
returns-in-Err-jwk_of_block-clause-only c = λ label key is text.
    c.of_both.ensures ∙ both_refused c.in-Err.first c.in-Err-jwk_of_block.second c.args.octets.now c.in-Err.ensures.only c.in-Err-jwk_of_block.ensures.only label key is text
