use Rattle.jwt_issue.proofs.GeneralForm.{general_is_signed}
use Rattle.jwt_issue.proofs.laws.general_tokens_are_signed.Goals as goal

pub returns : goal.returns
returns c = λ most typ claims pairs some few utf8 payload.
    general_is_signed c.quoted_texts.ensures most typ claims pairs some few utf8 payload (λ k d low. c.tags_are_octets.ensures _ _ _)
