use Rattle.jwt_issue.proofs.HeaderTexts.{header_text}
use Rattle.jwt_issue.proofs.Spelled.{compact_is_signed}
use Rattle.jwt_issue.proofs.laws.compact_tokens_are_signed.Goals as goal

pub returns : goal.returns
returns c = λ most typ claims pair utf8 payload.
    compact_is_signed most typ claims pair utf8 (header_text c.quoted_texts.ensures typ pair utf8) payload (c.tags_are_octets.ensures pair.alg _ _)
