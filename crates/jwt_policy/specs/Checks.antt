-- The claims under a policy, at a moment.
use Rattle.std.specs.Prelude.{ℕ, ℤ, pos, ◌+◌, ◌+ℤ◌, ◌==◌, List, [], ◌∷◌, ◌++◌, codes, length, map, Bool, not, ◌&&◌, ◌||◌, int_lt, is_some, Option}
use Rattle.serde_json.specs.Data.{Members}
use Rattle.jwt_text.specs.Members.{has, text_at, whole_at, list_at}
use Rattle.jwt_text.specs.Rows.{Row, ◌⇒◌, first_row}
use Rattle.jwt_policy.specs.Settings.{Settings}
use Rattle.jwt_policy.specs.Texts.{some_passes, is_among, any_text}
use Rattle.jwt_policy.specs.declared.claim_fault.ClaimFault.{ClaimFault}
use Rattle.jwt_policy.specs.declared.claim_fault.ClaimFault.TheVariants.{ClaimMissing, Issuer, Audience, Expired, NotYet, IssuedLater, TooOld}

-- a required claim is absent
abbrev pub missing : Members → List ℕ → Row ClaimFault
missing claims name = not (has name claims) ⇒ ClaimMissing name

-- ---- dates (RFC 7519, sections 4.1.4 to 4.1.6), in seconds, over unbounded whole numbers

unfoldable pub is_expired : Settings → Members → ℤ → Bool
is_expired policy claims now = some_passes (λ exp. not (int_lt now (exp +ℤ pos policy.claims.leeway))) (whole_at (codes "exp") claims)

-- a date is later than now, the leeway added
abbrev pub is_later : ℤ → ℕ → ℤ → Bool
is_later now leeway date = int_lt (now +ℤ pos leeway) date

unfoldable pub is_not_yet : Settings → Members → ℤ → Bool
is_not_yet policy claims now = some_passes (is_later now policy.claims.leeway) (whole_at (codes "nbf") claims)

unfoldable pub is_issued_later : Settings → Members → ℤ → Bool
is_issued_later policy claims now = is_some policy.claims.max_age && some_passes (is_later now policy.claims.leeway) (whole_at (codes "iat") claims)

-- what was issued at iat is older than the greatest age, the leeway added
unfoldable pub is_too_old : Settings → Members → ℤ → Bool
is_too_old policy claims now =
    some_passes (λ iat. some_passes (λ age. int_lt (iat +ℤ pos (age + policy.claims.leeway)) now) policy.claims.max_age) (whole_at (codes "iat") claims)

-- ---- the tests of the claims that aren't of dates

-- the policy has a greatest age, and `iat` is absent
abbrev pub lacks_iat : Settings → Members → Bool
lacks_iat policy claims = is_some policy.claims.max_age && not (has (codes "iat") claims)

-- the policy names issuers, and `iss` is none of them (RFC 7519, section 4.1.1; RFC 8725, section 3.8)
abbrev pub is_other_issuer : Settings → Members → Bool
is_other_issuer policy claims = not (length policy.claims.issuers == 0) && not (some_passes (is_among policy.claims.issuers) (text_at (codes "iss") claims))

-- `aud` is one of these texts, or holds one (RFC 7519, section 4.1.3)
abbrev pub names_audience : List (List ℕ) → Members → Bool
names_audience audiences claims =
    some_passes (is_among audiences) (text_at (codes "aud") claims) || some_passes (any_text (is_among audiences)) (list_at (codes "aud") claims)

-- `aud` is there, and names none of the policy's audiences (RFC 8725, section 3.9)
abbrev pub is_other_audience : Settings → Members → Bool
is_other_audience policy claims = has (codes "aud") claims && not (names_audience policy.claims.audiences claims)

-- ---- the table

-- The rows after those of the required claims.
unfoldable pub later_rows : Settings → Members → ℤ → List (Row ClaimFault)
later_rows policy claims now =
    (lacks_iat policy claims ⇒ ClaimMissing (codes "iat"))
    ∷ (is_other_issuer policy claims ⇒ Issuer)
    ∷ (is_other_audience policy claims ⇒ Audience)
    ∷ (is_expired policy claims now ⇒ Expired)
    ∷ (is_not_yet policy claims now ⇒ NotYet)
    ∷ (is_issued_later policy claims now ⇒ IssuedLater)
    ∷ (is_too_old policy claims now ⇒ TooOld)
    ∷ []

abbrev pub check_rows : Settings → Members → ℤ → List (Row ClaimFault)
check_rows policy claims now = map (missing claims) policy.claims.required ++ later_rows policy claims now

-- the first cause to refuse the claims, if any
unfoldable pub check_of : Settings → Members → ℤ → Option ClaimFault
check_of policy claims now = first_row (check_rows policy claims now)
