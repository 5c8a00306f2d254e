use Rattle.jwt_issue.proofs.FlattenedForm.{flattened_is_signed}
use Rattle.jwt_issue.proofs.laws.flattened_tokens_are_signed.Goals as goal

pub returns : goal.returns
returns c = λ most typ claims pair utf8 payload. flattened_is_signed c.quoted_texts.ensures most typ claims pair utf8 payload (c.tags_are_octets.ensures pair.alg _ _)
