-- The set of a secret, as it is read back.
use Rattle.std.proofs.Common.{◌≡◌, ℕ, List, [], ◌∷◌, ◌++◌, None, Result, Ok, ap, ◌∙◌}
use Rattle.serde_json.specs.Data.{Members, object}
use Rattle.jwt_text.specs.ObjectText.{object_of}
use Rattle.jwt_mac.specs.Verifying.{OctKey}
use Rattle.jwt_keys.specs.Keys.{KeyParts}
use Rattle.jwt_keys.specs.Entries.{key_if, skip_if}
use Rattle.jwt_keys.specs.KeySets.{KeyList, key_list}
use Rattle.jwt_keys.specs.declared.skip.SkipReason.{SkipReason}
use Rattle.jwt_jwk.specs.Jwk.{ReadsAsKey, jwk}
use Rattle.jwt_document.specs.Given.{secret_set}

-- the set of one entry
abbrev set_of_one : Result KeyParts SkipReason → KeyList
set_of_one r = record { keys = key_if r ++ []; skips = skip_if 0 r ++ [] }

pub set_read : (secret text : List ℕ) (ms : Members) (set : KeyList) → ReadsAsKey None None (OctKey secret) text → object_of text ≡ Ok ms → set ≡ key_list (object ms ∷ []) → set ≡ secret_set secret
set_read secret text ms set reads is e =
    let same : ms ≡ jwk None None (OctKey secret) = cc (reads.0, is) in
    e ∙ ap (λ (m : Members). key_list (object m ∷ [])) same ∙ ap set_of_one (reads.1 0)
