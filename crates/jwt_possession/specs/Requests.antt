-- What belongs to this request, and the steps of a proof's claims that need it (RFC 9449, section 4.3, steps 8, 9, 10 and 12).
use Rattle.std.specs.Prelude.{ℕ, ◌≡◌, List, [], ◌∷◌, Bool, true, not, Some, codes}
use Rattle.std.specs.Option.{option_map_or, IfSome}
use Rattle.std.specs.Str.{bytes_eq}
use Rattle.serde_json.specs.Data.{Members}
use Rattle.jwt_text.specs.Members.{text_at}
use Rattle.jwt_text.specs.Rows.{Row, ◌⇒◌}
use Rattle.jwt_policy.specs.Texts.{some_passes}
use Rattle.jwt_possession.specs.Bindings.{bound_key, digest_text}
use Rattle.jwt_possession.specs.Uris.{normal_uri, same_uri}
use Rattle.jwt_possession.specs.Paths.{has_agreed_path}
use Rattle.jwt_possession.specs.declared.request.Request.{Request}
use Rattle.jwt_possession.specs.declared.request.RequestFault.{RequestFault}
use Rattle.jwt_possession.specs.declared.request.RequestFault.TheVariants.{OtherMethod, PathForm, OtherUri, OtherNonce, OtherAccessToken}

-- the proof's claims are for this request, and its key, which has this thumbprint, is the one that the access token is bound to
pub record IsForRequest (claims : Members) (request : Request) (thumbprint : List ℕ) : Type 0 where
  -- step 8
  pub method : text_at (codes "htm") claims ≡ Some request.method.now
  -- the path is one of which every reader makes the same
  pub path : has_agreed_path request.uri.now ≡ true
  -- step 9
  pub uri : (htu normal : List ℕ) × (text_at (codes "htu") claims ≡ Some htu) × (normal_uri htu ≡ Some normal) × (normal_uri request.uri.now ≡ Some normal)
  -- step 10
  pub nonce : IfSome request.nonce (λ nonce. text_at (codes "nonce") claims ≡ Some nonce.now)
  -- step 12, its first part
  pub access : IfSome request.access (λ access. text_at (codes "ath") claims ≡ Some (digest_text access.token.now))
  -- step 12, its second part
  pub key : IfSome request.access (λ access. bound_key access.claims.now ≡ Some thumbprint)

-- ---- the same as a table

-- the claim of this name is a text, and this one
abbrev pub is_text : List ℕ → Members → List ℕ → Bool
is_text name claims wanted = some_passes (λ text. bytes_eq text wanted) (text_at name claims)

abbrev pub is_nonce : Members → Request → Bool
is_nonce claims request = option_map_or (λ nonce. is_text (codes "nonce") claims nonce.now) request.nonce true

abbrev pub is_access : Members → Request → Bool
is_access claims request = option_map_or (λ access. is_text (codes "ath") claims (digest_text access.token.now)) request.access true

-- no access token came, or it is bound to the key of this thumbprint
abbrev pub is_key : Request → List ℕ → Bool
is_key request thumbprint = option_map_or (λ access. some_passes (λ text. bytes_eq text thumbprint) (bound_key access.claims.now)) request.access true

-- why the claims aren't for this request, in the order of the steps
abbrev pub request_rows : Members → Request → List (Row RequestFault)
request_rows claims request =
    (not (is_text (codes "htm") claims request.method.now) ⇒ OtherMethod)
    ∷ (not (has_agreed_path request.uri.now) ⇒ PathForm)
    ∷ (not (some_passes (same_uri request.uri.now) (text_at (codes "htu") claims)) ⇒ OtherUri)
    ∷ (not (is_nonce claims request) ⇒ OtherNonce)
    ∷ (not (is_access claims request) ⇒ OtherAccessToken)
    ∷ []
