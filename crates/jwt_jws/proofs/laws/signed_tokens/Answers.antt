use Rattle.jwt_jws.proofs.SignedLaws.{token_read, token_made}
use Rattle.jwt_jws.proofs.laws.signed_tokens.Goals as goal

pub returns : goal.returns
returns c =
    let spells = c.octets_are_spelled.ensures.answer in
    let objects = c.object_texts.ensures.object in
    λ most z t. (token_read spells objects most z t, token_made spells objects most z t)
