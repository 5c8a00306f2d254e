-- Public documents, and the issuer that a token names: for keys by URL, and for several issuers.
use Rattle.std.specs.Prelude.{◌≡◌, ◌≢◌, ℕ, List, [], ◌∷◌, Bool, true, false, not, ◌&&◌, codes, Option, Some, None, Result, Ok, Err}
use Rattle.std.specs.List.{list_any}
use Rattle.serde_json.specs.Data.{Members}
use Rattle.jwt_text.specs.declared.fault.TextFault.{TextFault}
use Rattle.jwt_text.specs.Members.{text_at}
use Rattle.jwt_text.specs.ObjectText.{object_of}
use Rattle.jwt_mac.specs.Algorithm.{is_hmac_alg}
use Rattle.jwt_mac.specs.Verifying.{KeyOctets, OctKey}
use Rattle.jwt_keys.specs.Keys.{KeyParts}
use Rattle.jwt_jws.specs.Token.{Token}
use Rattle.jwt_policy.specs.Settings.{Settings}
use Rattle.jwt_verify.specs.declared.report.Fault.{Fault}
use Rattle.jwt_handles.specs.declared.status.TheConstants.{FOW_OUT_OF_MEMORY, FOW_UNNAMED}
use Rattle.jwt_handles.specs.Written.{IsAbsent, Puts}

-- the key is a shared secret (RFC 7518, section 6.4)
abbrev pub is_secret : KeyOctets → Bool
is_secret (OctKey k) = true
is_secret _ = false

abbrev pub is_secret_key : KeyParts → Bool
is_secret_key key = is_secret key.octets

-- no algorithm is HMAC, and no key a shared secret: what everyone may read lets nobody sign (RFC 8725, section 2.1)
abbrev pub are_public : Settings → List KeyParts → Bool
are_public policy keys = not (list_any is_hmac_alg policy.run.algs) && not (list_any is_secret_key keys)

-- the one text of a list of one
abbrev pub sole : List (List ℕ) → Option (List ℕ)
sole (text ∷ []) = Some text
sole _ = None

-- the text of this name, where the octets are an object text and have one
abbrev pub text_in : List ℕ → Result Members TextFault → Option (List ℕ)
text_in name (Ok members) = text_at name members
text_in name (Err fault) = None

-- the issuer that a payload names (RFC 7519, section 4.1.1): the text of `iss`, where the payload is an object text
abbrev pub named_issuer : List ℕ → Option (List ℕ)
named_issuer payload = text_in (codes "iss") (object_of payload)

-- it is written, where it is there: FOW_UNNAMED where it isn't; unless memory was refused
abbrev pub PutsNamed : Option (List ℕ) → ℕ → ℕ → List ℕ → List ℕ → Type 0
PutsNamed None status size old out = status ≢ FOW_OUT_OF_MEMORY → status ≡ FOW_UNNAMED
PutsNamed (Some octets) status size old out = status ≢ FOW_OUT_OF_MEMORY → Puts octets status size old out

-- the issuer that a token names is written; FOW_ABSENT where the octets are no token
abbrev pub PutsIssuer : Result Token Fault → ℕ → ℕ → List ℕ → List ℕ → Type 0
PutsIssuer (Err fault) status size old out = IsAbsent status
PutsIssuer (Ok signed) status size old out = PutsNamed (named_issuer signed.payload) status size old out
