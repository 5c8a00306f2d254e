-- Claims that no row of the table refuses are for the request.
use Rattle.std.proofs.Common.{◌≡◌, ℕ, Bool, true, List, codes, Option, Some, None, refl, sym, ap}
use Rattle.std.specs.Option.{option_map_or, IfSome}
use Rattle.std.specs.Str.{bytes_eq}
use Rattle.std.proofs.lemmas.Slice.Eq.{bytes_eq-Decides}
use Rattle.serde_json.specs.Data.{Members}
use Rattle.jwt_text.specs.Members.{text_at}
use Rattle.jwt_text.specs.Rows.{first_row}
use Rattle.jwt_policy.specs.Texts.{some_passes}
use Rattle.jwt_possession.specs.Bindings.{bound_key, digest_text}
use Rattle.jwt_possession.specs.Uris.{normal_uri, same_uri}
use Rattle.jwt_possession.specs.Paths.{has_agreed_path}
use Rattle.jwt_possession.specs.Requests.{IsForRequest, is_text, is_nonce, is_access, is_key, request_rows}
use Rattle.jwt_possession.specs.declared.request.Request.{Request}
use Rattle.jwt_possession.proofs.Policies.{fails_each, holds_of_not, text_is}

-- ---- what is asked where there is something

if_some : {X : Type 0} (test : X → Bool) (P : X → Type 0) → ((x : X) → test x ≡ true → P x) → (o : Option X) → option_map_or test o true ≡ true → IfSome o P
if_some test P holds None e = tt
if_some test P holds (Some x) e = holds x e

-- ---- the URI

normal_is : (normal : List ℕ) (o : Option (List ℕ)) → some_passes (bytes_eq normal) o ≡ true → o ≡ Some normal
normal_is normal None e = absurd cc
normal_is normal (Some other) e = ap Some (sym ((bytes_eq-Decides normal other).0 e))

have_one_form : (one two : List ℕ) (o : Option (List ℕ)) → normal_uri one ≡ o → some_passes (λ normal. some_passes (bytes_eq normal) (normal_uri two)) o ≡ true → (normal : List ℕ) × (normal_uri two ≡ Some normal) × (normal_uri one ≡ Some normal)
have_one_form one two None is e = absurd cc
have_one_form one two (Some normal) is e = (normal, normal_is normal (normal_uri two) e, is)

is_uri : (uri : List ℕ) (o : Option (List ℕ)) → some_passes (same_uri uri) o ≡ true → (htu normal : List ℕ) × (o ≡ Some htu) × (normal_uri htu ≡ Some normal) × (normal_uri uri ≡ Some normal)
is_uri uri None e = absurd cc
is_uri uri (Some htu) e = let one = have_one_form uri htu (normal_uri uri) refl e in (htu, one.0, refl, one.1, one.2)

pub for_request : (claims : Members) (request : Request) (thumbprint : List ℕ) → is_key request thumbprint ≡ true → first_row (request_rows claims request) ≡ None → IsForRequest claims request thumbprint
for_request claims request thumbprint bound none =
    let fails = fails_each (request_rows claims request) none in
    record {
      method = text_is (text_at (codes "htm") claims) request.method.now (holds_of_not (is_text (codes "htm") claims request.method.now) fails.0);
      path = holds_of_not (has_agreed_path request.uri.now) fails.1.0;
      uri = is_uri request.uri.now (text_at (codes "htu") claims) (holds_of_not (some_passes (same_uri request.uri.now) (text_at (codes "htu") claims)) fails.1.1.0);
      nonce = if_some (λ nonce. is_text (codes "nonce") claims nonce.now) (λ nonce. text_at (codes "nonce") claims ≡ Some nonce.now)
          (λ nonce e. text_is (text_at (codes "nonce") claims) nonce.now e) request.nonce (holds_of_not (is_nonce claims request) fails.1.1.1.0);
      access = if_some (λ access. is_text (codes "ath") claims (digest_text access.token.now)) (λ access. text_at (codes "ath") claims ≡ Some (digest_text access.token.now))
          (λ access e. text_is (text_at (codes "ath") claims) (digest_text access.token.now) e) request.access (holds_of_not (is_access claims request) fails.1.1.1.1.0);
      key = if_some (λ access. some_passes (λ text. bytes_eq text thumbprint) (bound_key access.claims.now)) (λ access. bound_key access.claims.now ≡ Some thumbprint)
          (λ access e. text_is (bound_key access.claims.now) thumbprint e) request.access bound;
    }
