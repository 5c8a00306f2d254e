-- Tokens with one signature, in either form that has just one.
use Rattle.std.specs.Prelude.{ℕ, List, [], ◌∷◌, ◌++◌, Option, Result, codes}
use Rattle.jwt_text.specs.Answers.{unless}
use Rattle.jwt_text.specs.Base64url.{spelling}
use Rattle.jwt_mac.specs.Verifying.{signing_input}
use Rattle.jwt_jws.specs.Token.{Token}
use Rattle.jwt_issue.specs.Issued.{PairParts, SignerParts, text_members, signature_text, unfit, token_within, pair_signing_cost, signer_of}
use Rattle.jwt_issue.specs.Signed.{compact_signed, flattened_signed}
use Rattle.jwt_issue.specs.declared.fault.IssueFault.{IssueFault}
use Rattle.jwt_issue.specs.declared.single.Single.{Single}
use Rattle.jwt_issue.specs.declared.single.Single.TheVariants.{Compact, Flattened}

-- the token of these texts: protected header, payload, signature
abbrev pub token_of_texts : Single → List ℕ → List ℕ → List ℕ → List ℕ
token_of_texts Compact protected payload signature =
    signing_input (record { protected = protected; payload = payload }) ++ 46 ∷ [] ++ signature
token_of_texts Flattened protected payload signature =
    codes "{\"payload\":\"" ++ payload ++ codes "\"," ++ text_members protected signature

abbrev pub single_token : Single → List ℕ → SignerParts → List ℕ
single_token form payload s = token_of_texts form s.protected payload (signature_text payload s)

-- what is issued in this form where so many octets are left, or the first refusal
unfoldable pub single_of : Single → ℕ → Option (List ℕ) → List ℕ → PairParts → Result (List ℕ) IssueFault
single_of form left typ claims pair =
    unless (unfit 0 pair)
    (token_within left (pair_signing_cost typ claims pair ∷ []) (single_token form (spelling claims) (signer_of typ pair)))

-- the signed token that it is
abbrev pub single_signed : Single → Option (List ℕ) → List ℕ → PairParts → Token
single_signed Compact typ claims pair = compact_signed typ claims pair
single_signed Flattened typ claims pair = flattened_signed typ claims pair
