-- The text of a challenge.
use Rattle.std.specs.Prelude.{◌≡◌, ◌≢◌, ◌<◌, ◌≤◌, ℕ, List, [], ◌∷◌, ◌++◌, codes, length, drop, Option, Some, None}
use Rattle.jwt_request.specs.declared.scheme.Scheme.{Scheme}
use Rattle.jwt_request.specs.declared.scheme.Scheme.TheVariants.{Bearer, Dpop}
use Rattle.jwt_request.specs.declared.challenge.Challenge.{Challenge}
use Rattle.jwt_request.specs.declared.challenge.Parts.{Parts}
use Rattle.jwt_request.specs.declared.challenge.Challenge.TheVariants.{Silent, Realm, InvalidRequest, InvalidToken, InsufficientScope, Scopes, InvalidProof, UseNonce}

-- it stands in a quoted string as itself: a printable octet of ASCII, but neither the quotation mark nor the backslash (RFC 9110, section 5.6.4; of a
-- scope RFC 6750, section 3)
abbrev pub IsQuotable : ℕ → Type 0
IsQuotable octet = (32 ≤ octet) × (octet ≤ 126) × (octet ≢ 34) × (octet ≢ 92)

-- between quotation marks
abbrev pub quoted : List ℕ → List ℕ
quoted text = 34 ∷ text ++ 34 ∷ []

-- the value of WWW-Authenticate (RFC 9110, section 11.6.1; RFC 6750, section 3; RFC 9449, sections 7.1 and 9); empty: there is no such header. The
-- realm stands in a challenge of Bearer alone, and the algorithms in each of DPoP
abbrev pub challenge_text : Scheme → Challenge → List ℕ → List ℕ → List ℕ → List ℕ
challenge_text scheme Silent realm scope algs = []
challenge_text Bearer Realm realm scope algs = codes "Bearer realm=" ++ quoted realm
challenge_text Bearer InvalidRequest realm scope algs = codes "Bearer error=" ++ quoted (codes "invalid_request")
challenge_text Bearer InvalidToken realm scope algs = codes "Bearer error=" ++ quoted (codes "invalid_token")
challenge_text Bearer InsufficientScope realm scope algs = codes "Bearer error=" ++ quoted (codes "insufficient_scope")
challenge_text Bearer Scopes realm scope algs = codes "Bearer error=" ++ quoted (codes "insufficient_scope") ++ codes ", scope=" ++ quoted scope
challenge_text Bearer InvalidProof realm scope algs = codes "Bearer error=" ++ quoted (codes "invalid_dpop_proof")
challenge_text Bearer UseNonce realm scope algs = codes "Bearer error=" ++ quoted (codes "use_dpop_nonce")
challenge_text Dpop Realm realm scope algs = codes "DPoP algs=" ++ quoted algs
challenge_text Dpop InvalidRequest realm scope algs = codes "DPoP algs=" ++ quoted algs ++ codes ", error=" ++ quoted (codes "invalid_request")
challenge_text Dpop InvalidToken realm scope algs = codes "DPoP algs=" ++ quoted algs ++ codes ", error=" ++ quoted (codes "invalid_token")
challenge_text Dpop InsufficientScope realm scope algs = codes "DPoP algs=" ++ quoted algs ++ codes ", error=" ++ quoted (codes "insufficient_scope")
challenge_text Dpop Scopes realm scope algs =
    codes "DPoP algs=" ++ quoted algs ++ codes ", error=" ++ quoted (codes "insufficient_scope") ++ codes ", scope=" ++ quoted scope
challenge_text Dpop InvalidProof realm scope algs = codes "DPoP algs=" ++ quoted algs ++ codes ", error=" ++ quoted (codes "invalid_dpop_proof")
challenge_text Dpop UseNonce realm scope algs = codes "DPoP algs=" ++ quoted algs ++ codes ", error=" ++ quoted (codes "use_dpop_nonce")

-- the text stands at the front, and what stood behind it still does; or there is too little room for it, and nothing is written
abbrev pub IsWritten : List ℕ → Option ℕ → List ℕ → List ℕ → Type 0
IsWritten text None old new = (length old < length text) × (new ≡ old)
IsWritten text (Some size) old new = (size ≡ length text) × (new ≡ text ++ drop (length text) old)

-- ---- Cited by contracts of private functions alone

-- a text in parts
abbrev pub text_of : Parts → List ℕ
text_of it = it.front.now ++ it.first.now ++ it.middle.now ++ it.second.now ++ it.end.now
