-- The payload of a token that is kept, and what is handed out of one that is judged.
use Rattle.std.specs.Prelude.{◌≡◌, ℕ, false, List, Option, Some, None, option_and_then}
use Rattle.jwt_text.specs.Base64url.{octets_of}
use Rattle.jwt_jws.specs.Forms.{CompactTexts, compact_texts, opens_object}
use Rattle.jwt_jws.specs.Token.{Token}
use Rattle.jwt_jws.specs.Views.{token}
use Rattle.jwt_jws.specs.declared.signed.Signed.{Signed}
use Rattle.jwt_policy.specs.Settings.{Settings}
use Rattle.jwt_verify.specs.Asks.{IsToken}
use Rattle.jwt_verify.specs.Reports.{IsReadAs}
use Rattle.jwt_verify.specs.declared.report.Verdict.{Verdict}
use Rattle.jwt_verify.specs.declared.report.Verdict.TheVariants.{Accepted, Refused}

-- the payload of octets in compact form: what the text between their two periods spells (RFC 7515, section 7.1)
abbrev pub compact_payload : List ℕ → Option (List ℕ)
compact_payload octets = option_and_then (λ (texts : CompactTexts). octets_of texts.payload) (compact_texts octets)

abbrev pub IsCompactPayload : List ℕ → List ℕ → Type 0
IsCompactPayload octets payload = compact_payload octets ≡ Some payload

-- the payload of the token that the octets are by this policy, if they are one
abbrev pub IsPayloadOf : Settings → List ℕ → List ℕ → Type 0
IsPayloadOf policy octets payload = (token : Token) → IsToken policy octets token → token.payload ≡ payload

abbrev pub IsAcceptance : Verdict → Type 0
IsAcceptance (Accepted signature key claims) = Unit {0}
IsAcceptance (Refused fault) = ⊥

-- what is handed out, if anything is, is the payload of the token, and the token is accepted
abbrev pub HandsOut : Settings → List ℕ → Verdict → Option (List ℕ) → Type 0
HandsOut policy octets verdict None = Unit {0}
HandsOut policy octets verdict (Some payload) = IsAcceptance verdict × IsPayloadOf policy octets payload

-- what is handed out of a judged token, if anything is, is the payload that was read, and the token is accepted
abbrev pub IsPayloadRead : Verdict → Option Signed → Option (List ℕ) → Type 0
IsPayloadRead verdict read None = Unit {0}
IsPayloadRead verdict None (Some payload) = ⊥
IsPayloadRead verdict (Some signed) (Some payload) = IsAcceptance verdict × (payload ≡ (token signed).payload)

-- ---- Cited by laws alone

-- of a token that doesn't open an object the payload is what the text between the periods spells, by whichever policy it is read
abbrev pub SpellsCompactPayloads : Type 0
SpellsCompactPayloads = (policy : Settings) (octets : List ℕ) (token : Token) → opens_object octets ≡ false → IsToken policy octets token → IsCompactPayload octets token.payload

abbrev pub ReadsCompactPayloads : Type 0
ReadsCompactPayloads = (policy : Settings) (octets payload : List ℕ) → opens_object octets ≡ false → IsCompactPayload octets payload → IsPayloadOf policy octets payload

-- of the token that the octets are, what was read is what is handed out
abbrev pub HandsOutRead : Type 0
HandsOutRead = (policy : Settings) (octets : List ℕ) (verdict : Verdict) (read : Option Signed) (payload : Option (List ℕ))
    → IsReadAs policy octets verdict read → IsPayloadRead verdict read payload → HandsOut policy octets verdict payload
