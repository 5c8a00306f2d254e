use Rattle.std.proofs.Common.{ℕ, List, Option, IsUtf8}
use Rattle.serde_json.specs.Data.{object}
use Rattle.serde_json.specs.Written.{compact_text}
use Rattle.jwt_text.specs.Base64url.{AreOctets, spelling}
use Rattle.jwt_jws.specs.SignedToken.{IsSignedToken}
use Rattle.jwt_issue.specs.Issued.{PairParts, header, signer_of}
use Rattle.jwt_issue.specs.Single.{single_token, single_signed}
use Rattle.jwt_issue.specs.declared.single.Single.{Single}
use Rattle.jwt_issue.specs.declared.single.Single.TheVariants.{Compact, Flattened}
use Rattle.jwt_issue.proofs.single.tokens_are_signed.Goals as goal

abbrev AreSigned : Single → Type 0
AreSigned form = (most : ℕ) (typ : Option (List ℕ)) (claims : List ℕ) (pair : PairParts)
    → IsUtf8 (compact_text (object (header typ pair))) → AreOctets claims
    → IsSignedToken most (single_token form (spelling claims) (signer_of typ pair)) (single_signed form typ claims pair)

by_form : AreSigned Compact → AreSigned Flattened → (form : Single) → AreSigned form
by_form compact flattened Compact = compact
by_form compact flattened Flattened = flattened

pub returns : goal.returns
returns c = by_form c.compact_tokens_are_signed.ensures c.flattened_tokens_are_signed.ensures
