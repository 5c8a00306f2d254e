-- What is a proof has no fault.
use Rattle.std.proofs.Common.{◌≡◌, ◌++◌, ℕ, ℤ, Bool, true, false, not, List, [], ◌∷◌, codes, length, slice_get, Option, Some, None, Ok, Err, refl, sym, ap, subst, ◌∙◌, inl, inr}
use Rattle.std.specs.Prelude.{◌↔◌}
use Rattle.std.specs.Option.{option_map_or, IfSome}
use Rattle.std.specs.Str.{bytes_eq}
use Rattle.std.proofs.lemmas.Slice.Eq.{bytes_eq-Decides}
use Rattle.serde_json.specs.Data.{Members}
use Rattle.jwt_text.specs.Members.{text_at}
use Rattle.jwt_text.specs.ObjectText.{object_of, IsObjectText}
use Rattle.jwt_text.specs.Rows.{Row, first_row, IsFirstRow}
use Rattle.jwt_text.proofs.RowsLemmas.{first_row_is, no_row_is}
use Rattle.jwt_mac.specs.Verifying.{Meaning}
use Rattle.jwt_jws.specs.declared.fault.Form.TheVariants.{Compact}
use Rattle.jwt_jws.specs.Token.{Token, SignatureParts}
use Rattle.jwt_keys.specs.Keys.{KeyParts}
use Rattle.jwt_policy.specs.Bars.{bar_rows}
use Rattle.jwt_policy.specs.Checks.{check_of, check_rows}
use Rattle.jwt_policy.specs.ClaimKinds.{kind_rows}
use Rattle.jwt_policy.specs.Laws.{ClaimsHold}
use Rattle.jwt_policy.specs.Settings.{Settings}
use Rattle.jwt_policy.specs.Texts.{some_passes}
use Rattle.jwt_policy.proofs.RowsLemmas.{first_of_both}
use Rattle.jwt_verify.specs.Accepted.{HasClaims, TellsTokens, TellsTokenFaults}
use Rattle.jwt_verify.specs.Reports.{FoundMemory}
use Rattle.jwt_verify.specs.declared.report.Fault.{Fault}
use Rattle.jwt_verify.specs.declared.report.Fault.TheVariants as token_fault
use Rattle.jwt_verify.specs.declared.report.Verdict.TheVariants.{Refused}
use Rattle.jwt_possession.specs.declared.own_key.KeyFault.{KeyFault}
use Rattle.jwt_possession.specs.declared.own_key.KeyFault.TheVariants as key_fault
use Rattle.jwt_possession.specs.declared.proof.ProofFault.TheVariants.{NoToken, NoKey, OtherKey, NotAccepted, OtherRequest, OutOfMemory}
use Rattle.jwt_possession.specs.declared.request.Request.{Request}
use Rattle.jwt_possession.specs.declared.request.RequestFault.{RequestFault}
use Rattle.jwt_possession.specs.Bindings.{bound_key, digest_text}
use Rattle.jwt_possession.specs.HeaderKey.{header_key_of}
use Rattle.jwt_possession.specs.Laws.{ProofsHaveNoFault}
use Rattle.jwt_possession.specs.Proofs.{HasOwnKey, IsKeyFault, IsRefusal, IsVerifiedByKey}
use Rattle.jwt_possession.specs.Paths.{has_agreed_path}
use Rattle.jwt_possession.specs.Requests.{IsForRequest, is_text, is_nonce, is_access, is_key, request_rows}
use Rattle.jwt_possession.specs.Uris.{normal_uri, same_uri}
use Rattle.jwt_possession.proofs.OneToken.{no_token_fault, one_token}
use Rattle.jwt_possession.proofs.Policies.{FailsEach}

-- octets are the text of one object at most
abbrev pub TellsObjects : Type 0
TellsObjects = (text : List ℕ) (ms : Members) → (object_of text ≡ Ok ms) ↔ IsObjectText text ms

-- claims hold exactly where no check refuses them
abbrev pub TellsChecks : Type 0
TellsChecks = (p : Settings) (ms : Members) (now : ℤ) → (check_of p ms now ≡ None) ↔ ClaimsHold p ms now

-- ---- claims that are for the request are refused by no row

same_text : (text : List ℕ) → bytes_eq text text ≡ true
same_text text = (bytes_eq-Decides text text).1 refl

is_that : (o : Option (List ℕ)) (wanted : List ℕ) → o ≡ Some wanted → some_passes (λ text. bytes_eq text wanted) o ≡ true
is_that o wanted is = rw is (same_text wanted)

if_there : {X : Type 0} (test : X → Bool) (P : X → Type 0) → ((x : X) → P x → test x ≡ true) → (o : Option X) → IfSome o P → option_map_or test o true ≡ true
if_there test P holds None h = refl
if_there test P holds (Some x) h = holds x h

one_form : (one two normal : List ℕ) → normal_uri one ≡ Some normal → normal_uri two ≡ Some normal → same_uri one two ≡ true
one_form one two normal first second = rw first (rw second (same_text normal))

off : (b : Bool) → b ≡ true → not b ≡ false
off b is = rw is refl

rows_fail : {A : Type 0} (rows : List (Row A)) → FailsEach rows → first_row rows ≡ None
rows_fail [] fails = refl
rows_fail (row ∷ rows) fails = rw fails.0 (rows_fail rows fails.1)

uri_is : (uri : List ℕ) (o : Option (List ℕ)) (htu normal : List ℕ) → o ≡ Some htu → normal_uri htu ≡ Some normal → normal_uri uri ≡ Some normal → some_passes (same_uri uri) o ≡ true
uri_is uri o htu normal is one two = rw is (one_form uri htu normal two one)

pub no_row : (claims : Members) (request : Request) (thumbprint : List ℕ) → IsForRequest claims request thumbprint → first_row (request_rows claims request) ≡ None
no_row claims request thumbprint h =
    let method = is_that (text_at (codes "htm") claims) request.method.now h.method in
    let uri = uri_is request.uri.now (text_at (codes "htu") claims) h.uri.0 h.uri.1 h.uri.2 h.uri.3 h.uri.4 in
    let nonce = if_there (λ nonce. is_text (codes "nonce") claims nonce.now) (λ nonce. text_at (codes "nonce") claims ≡ Some nonce.now)
    (λ nonce is. is_that (text_at (codes "nonce") claims) nonce.now is) request.nonce h.nonce in
    let access = if_there (λ access. is_text (codes "ath") claims (digest_text access.token.now)) (λ access. text_at (codes "ath") claims ≡ Some (digest_text access.token.now))
    (λ access is. is_that (text_at (codes "ath") claims) (digest_text access.token.now) is) request.access h.access in
    rows_fail (request_rows claims request) (
      off (is_text (codes "htm") claims request.method.now) method,
      (
        off (has_agreed_path request.uri.now) h.path,
        (
          off (some_passes (same_uri request.uri.now) (text_at (codes "htu") claims)) uri,
          (
            off (is_nonce claims request) nonce,
            (
              off (is_access claims request) access,
              tt,
            ),
          ),
        ),
      ),
    )

is_bound : (claims : Members) (request : Request) (thumbprint : List ℕ) → IsForRequest claims request thumbprint → is_key request thumbprint ≡ true
is_bound claims request thumbprint h =
    if_there (λ access. some_passes (λ text. bytes_eq text thumbprint) (bound_key access.claims.now)) (λ access. bound_key access.claims.now ≡ Some thumbprint)
    (λ access is. is_that (bound_key access.claims.now) thumbprint is) request.access h.key

-- ---- there is one token, one key and one list of claims

pub same_signature : (a b : Token) (key other : KeyParts) → a ≡ b → (h : HasOwnKey a key) → (g : HasOwnKey b other) → h.signature ≡ g.signature
same_signature a b key other same h g =
    let firsts : Some h.signature ≡ Some g.signature = sym h.first ∙ ap (λ (t : Token). slice_get t.signatures 0) same ∙ g.first in
    cc

pub one_key : (a b : Token) (key other : KeyParts) → a ≡ b → HasOwnKey a key → HasOwnKey b other → key ≡ other
one_key a b key other same h g =
    let keys : Ok key ≡ Ok other = sym h.own_key ∙ ap header_key_of (same_signature a b key other same h g) ∙ g.own_key in
    cc

pub one_object : TellsObjects → (payload : List ℕ) (claims others : Members) → IsObjectText payload claims → IsObjectText payload others → claims ≡ others
one_object objects payload claims others h g = let same : Ok claims ≡ Ok others = sym ((objects payload claims).1 h) ∙ (objects payload others).1 g in cc

-- ---- each fault

other_header : (a b : Token) (key : KeyParts) (fault : KeyFault) → a ≡ b → HasOwnKey a key → ¬ ((signature : SignatureParts) × (slice_get b.signatures 0 ≡ Some signature) × (header_key_of signature ≡ Err fault))
other_header a b key fault same h g =
    let firsts : Some h.signature ≡ Some g.0 = sym h.first ∙ ap (λ (t : Token). slice_get t.signatures 0) same ∙ g.1 in
    let signatures : h.signature ≡ g.0 = cc in
    let keys : Ok key ≡ Err fault = sym h.own_key ∙ ap header_key_of signatures ∙ g.2 in
    absurd cc

pub no_key_fault : (a b : Token) (key : KeyParts) (fault : KeyFault) → a ≡ b → HasOwnKey a key → ¬ IsKeyFault b fault
no_key_fault a b key key_fault.NotCompact same h g = g (subst (λ (t : Token). t.form ≡ Compact) same h.compact) (subst (λ (t : Token). length t.signatures ≡ 1) same h.alone)
no_key_fault a b key key_fault.KeyMissing same h g = other_header a b key key_fault.KeyMissing same h g.2
no_key_fault a b key key_fault.KeyPrivate same h g = other_header a b key key_fault.KeyPrivate same h g.2
no_key_fault a b key key_fault.KeyUnreadable same h g = other_header a b key key_fault.KeyUnreadable same h g.2
no_key_fault a b key key_fault.OutOfMemory same h g = other_header a b key key_fault.OutOfMemory same h g.2

pub not_both : {A : Type 0} (rows : List (Row A)) (a : A) → first_row rows ≡ None → ¬ IsFirstRow rows a
not_both rows a none first = let both : None ≡ Some a = sym none ∙ (first_row_is rows a).1 first in absurd cc

no_claim_row : TellsChecks → (policy : Settings) (now : ℤ) (payload : List ℕ) (claims : Members) → HasClaims payload claims → ClaimsHold policy claims now
    → first_row (kind_rows claims ++ check_rows policy claims now) ≡ None
unfolding check_of
no_claim_row checks policy now payload claims h holds =
    first_of_both (kind_rows claims) (check_rows policy claims now) ∙ rw ((no_row_is (kind_rows claims)).1 h.1) ((checks policy claims now).1 holds)

pub not_refused : TellsObjects → TellsChecks → (policy : Settings) (verifiers : List Meaning) (now : ℤ) (token : Token) (signature : SignatureParts) (key : KeyParts) (claims : Members) (fault : Fault)
    → IsVerifiedByKey policy verifiers token signature key → HasClaims token.payload claims → ClaimsHold policy claims now → FoundMemory (Refused fault)
    → ¬ IsRefusal policy verifiers now token signature key fault
not_refused objects checks policy verifiers now token signature key claims token_fault.OutOfMemory v has_claims holds found g = found
not_refused objects checks policy verifiers now token signature key claims token_fault.VerifierMemory v has_claims holds found g = found
not_refused objects checks policy verifiers now token signature key claims (token_fault.Signature n fault) v has_claims holds found (zero, inl first) =
    not_both (bar_rows policy signature verifiers) fault ((no_row_is (bar_rows policy signature verifiers)).1 v.eligible.unbarred) first
not_refused objects checks policy verifiers now token signature key claims (token_fault.Signature n fault) v has_claims holds found (zero, inr (inl (is, none, not))) = not v.eligible
not_refused objects checks policy verifiers now token signature key claims (token_fault.Signature n fault) v has_claims holds found (zero, inr (inr (is, eligible, allowed, not))) = not v
not_refused objects checks policy verifiers now token signature key claims (token_fault.CallsExceeded n m) v has_claims holds found g = v.allowed g.3
not_refused objects checks policy verifiers now token signature key claims (token_fault.Claim fault) v has_claims holds found (is, inl (shape, none)) = none claims has_claims.0
not_refused objects checks policy verifiers now token signature key claims (token_fault.Claim fault) v has_claims holds found (is, inr (others, object, first)) =
    let same = one_object objects token.payload claims others has_claims.0 object in
    not_both (kind_rows claims ++ check_rows policy claims now) fault (no_claim_row checks policy now token.payload claims has_claims holds)
    (subst (λ (ms : Members). IsFirstRow (kind_rows ms ++ check_rows policy ms now) fault) (sym same) first)
not_refused objects checks policy verifiers now token signature key claims (token_fault.WorkExceeded n m) v has_claims holds found g = g
not_refused objects checks policy verifiers now token signature key claims (token_fault.Text fault) v has_claims holds found g = g
not_refused objects checks policy verifiers now token signature key claims (token_fault.Form fault) v has_claims holds found g = g

no_other_request : (claims others : Members) (request : Request) (thumbprint : List ℕ) (fault : RequestFault) → claims ≡ others
    → IsForRequest claims request thumbprint → ¬ (first_row (request_rows others request) ≡ Some fault)
no_other_request claims others request thumbprint fault same h g =
    let none : first_row (request_rows others request) ≡ None = subst (λ (ms : Members). first_row (request_rows ms request) ≡ None) same (no_row claims request thumbprint h) in
    let both : None ≡ Some fault = sym none ∙ g in
    absurd cc

pub refused_here : (policy : Settings) (verifiers : List Meaning) (now : ℤ) (a b : Token) (s t : SignatureParts) (key other : KeyParts) (fault : Fault) → a ≡ b → s ≡ t → key ≡ other
    → IsRefusal policy verifiers now b t other fault → IsRefusal policy verifiers now a s key fault
refused_here policy verifiers now a b s t key other fault tokens signatures keys h =
    subst (λ (x : Token). IsRefusal policy verifiers now x s key fault) (sym tokens)
    (subst (λ (x : SignatureParts). IsRefusal policy verifiers now b x key fault) (sym signatures)
    (subst (λ (x : KeyParts). IsRefusal policy verifiers now b t x fault) (sym keys) h))

pub no_fault : TellsTokens → TellsTokenFaults → TellsObjects → TellsChecks → ProofsHaveNoFault
no_fault tells faults objects checks policy verifiers now request octets key claims (NoToken fault) h of g =
    no_token_fault tells faults policy octets h.signed.token fault h.signed.read (g of)
no_fault tells faults objects checks policy verifiers now request octets key claims (NoKey fault) h of g =
    let it = g of in
    no_key_fault h.signed.token it.0 key fault (one_token tells policy octets h.signed.token it.0 h.signed.read it.1) h.signed.has_own_key it.2
no_fault tells faults objects checks policy verifiers now request octets key claims OtherKey h of g =
    let it = g in
    let same = one_key h.signed.token it.0 key it.1 (one_token tells policy octets h.signed.token it.0 h.signed.read it.2) h.signed.has_own_key it.3 in
    let both : true ≡ false = sym (is_bound claims request key.thumbprint h.for_request) ∙ ap (λ (k : KeyParts). is_key request k.thumbprint) same ∙ it.4 in
    absurd cc
no_fault tells faults objects checks policy verifiers now request octets key claims (NotAccepted fault) h of (token, other, is, own, bound, refusal) =
    let same = one_token tells policy octets h.signed.token token h.signed.read is in
    not_refused objects checks policy verifiers now h.signed.token h.signed.has_own_key.signature key claims fault h.signed.verified h.signed.has_claims h.signed.hold of
    (refused_here policy verifiers now h.signed.token token h.signed.has_own_key.signature own.signature key other fault same
    (same_signature h.signed.token token key other same h.signed.has_own_key own) (one_key h.signed.token token key other same h.signed.has_own_key own) refusal)
no_fault tells faults objects checks policy verifiers now request octets key claims (OtherRequest fault) h of g =
    let other = g.2 in
    let same = one_token tells policy octets h.signed.token other.token h.signed.read other.read in
    let read = subst (λ (t : Token). IsObjectText t.payload g.1) (sym same) other.has_claims.0 in
    let alike = one_object objects h.signed.token.payload claims g.1 h.signed.has_claims.0 read in
    no_other_request claims g.1 request key.thumbprint fault alike h.for_request g.4
no_fault tells faults objects checks policy verifiers now request octets key claims OutOfMemory h of g = of
