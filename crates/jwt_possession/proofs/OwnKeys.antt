-- Octets are signed by one key of their own.
use Rattle.std.proofs.Common.{◌≡◌, ℕ, ℤ, List, sym, subst}
use Rattle.serde_json.specs.Data.{Members}
use Rattle.jwt_text.specs.ObjectText.{IsObjectText}
use Rattle.jwt_mac.specs.Verifying.{Meaning}
use Rattle.jwt_jws.specs.Token.{Token}
use Rattle.jwt_keys.specs.Keys.{KeyParts}
use Rattle.jwt_policy.specs.Settings.{Settings}
use Rattle.jwt_verify.specs.Accepted.{TellsTokens}
use Rattle.jwt_possession.specs.Proofs.{IsSignedByOwnKey}
use Rattle.jwt_possession.proofs.OneToken.{one_token}
use Rattle.jwt_possession.proofs.NoFault.{TellsObjects, one_key, one_object}

pub same_signed : TellsTokens → TellsObjects → (policy : Settings) (verifiers : List Meaning) (now : ℤ) (octets : List ℕ) (key other : KeyParts) (claims others : Members)
    → IsSignedByOwnKey policy verifiers now octets key claims → IsSignedByOwnKey policy verifiers now octets other others → (other ≡ key) × (others ≡ claims)
same_signed tells objects policy verifiers now octets key other claims others h g =
    let same = one_token tells policy octets h.token g.token h.read g.read in
    let read = subst (λ (t : Token). IsObjectText t.payload others) (sym same) g.has_claims.0 in
    let alike = one_object objects h.token.payload claims others h.has_claims.0 read in
    (sym (one_key h.token g.token key other same h.has_own_key g.has_own_key), sym alike)
