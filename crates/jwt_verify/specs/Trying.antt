-- The table of a token's pairs of signature and key.
use Rattle.std.specs.Prelude.{ℕ, Bool, false, List, length, Option, Some, None, option_and_then, slice_get, if◌then◌else◌}
use Rattle.std.specs.Option.{option_map_or}
use Rattle.std.specs.Str.{bytes_eq}
use Rattle.jwt_mac.specs.declared.algorithm.Alg.{Alg}
use Rattle.jwt_mac.specs.Algorithm.{is_hmac_alg, tag_of, try_cost}
use Rattle.jwt_mac.specs.Verifying.{Meaning, KeyOctets, OctKey, MessageOctets, signing_input, first_naming}
use Rattle.jwt_jws.specs.Token.{Token, SignatureParts, message_of}
use Rattle.jwt_keys.specs.Keys.{KeyParts}
use Rattle.jwt_policy.specs.Settings.{Settings}
use Rattle.jwt_policy.specs.Bars.{alg, bar_of}
use Rattle.jwt_policy.specs.Eligible.{eligible_for}
use Rattle.jwt_verify.specs.Table.{Table}

-- ---- one try, by the algorithm, the key, the message and the signature's octets

-- the signature is the tag of the signing input under a secret (RFC 7518, section 3.2)
abbrev pub is_tag : Alg → KeyOctets → List ℕ → List ℕ → Bool
is_tag algorithm (OctKey secret) input signature = bytes_eq signature (tag_of algorithm secret input)
is_tag algorithm _ input signature = false

abbrev pub accepted_by : Option Meaning → Alg → KeyOctets → MessageOctets → List ℕ → Bool
accepted_by None algorithm key message signature = false
accepted_by (Some verifier) algorithm key message signature = verifier.accepts algorithm key message signature

abbrev pub lacking_by : Option Meaning → Alg → KeyOctets → MessageOctets → List ℕ → Bool
lacking_by None algorithm key message signature = false
lacking_by (Some verifier) algorithm key message signature = verifier.may_lack algorithm key message signature

-- the signature is the tag; or, by another algorithm than HMAC, the first verifier that names it accepts the signature
-- (RFC 7515, section 5.2, step 8)
abbrev pub valid_under : List Meaning → Alg → KeyOctets → MessageOctets → List ℕ → Bool
valid_under verifiers algorithm key message signature =
    if is_hmac_alg algorithm then is_tag algorithm key (signing_input message) signature
    else accepted_by (first_naming verifiers algorithm) algorithm key message signature

-- the verifier that is asked may lack memory
abbrev pub may_lack_under : List Meaning → Alg → KeyOctets → MessageOctets → List ℕ → Bool
may_lack_under verifiers algorithm key message signature =
    if is_hmac_alg algorithm then false else lacking_by (first_naming verifiers algorithm) algorithm key message signature

-- the octets that the try feeds to HMAC (RFC 2104, section 2); none for another algorithm
abbrev pub cost_under : Alg → KeyOctets → MessageOctets → ℕ
cost_under algorithm (OctKey secret) message = try_cost algorithm (length secret) (length (signing_input message))
cost_under algorithm _ message = 0

-- ---- the same of a signature and a key, by the algorithm that the protected header names

unfoldable pub valid_by : List Meaning → MessageOctets → SignatureParts → KeyParts → Bool
valid_by verifiers message signature key = option_map_or (λ algorithm. valid_under verifiers algorithm key.octets message signature.octets) (alg signature) false

unfoldable pub may_lack_by : List Meaning → MessageOctets → SignatureParts → KeyParts → Bool
may_lack_by verifiers message signature key = option_map_or (λ algorithm. may_lack_under verifiers algorithm key.octets message signature.octets) (alg signature) false

unfoldable pub cost_by : MessageOctets → SignatureParts → KeyParts → ℕ
cost_by message signature key = option_map_or (λ algorithm. cost_under algorithm key.octets message) (alg signature) 0

-- ---- the table of a token and a list of keys

-- of the signature and the key of these numbers
abbrev pub at_pair : {A : Type 0} → (SignatureParts → KeyParts → A) → A → Token → List KeyParts → ℕ → ℕ → A
at_pair at default token keys signature key = option_map_or (λ s. option_map_or (at s) (slice_get keys key) default) (slice_get token.signatures signature) default

abbrev pub table_of : Settings → List Meaning → List KeyParts → Token → Table
table_of policy verifiers keys token = record {
  signatures = length token.signatures;
  keys = length keys;
  mode = policy.run.mode;
  bar = λ i. option_and_then (λ s. bar_of policy s verifiers) (slice_get token.signatures i);
  eligible = λ i j. at_pair (λ s k. eligible_for policy s k verifiers) false token keys i j;
  valid = λ i j. at_pair (λ s k. valid_by verifiers (message_of token s) s k) false token keys i j;
  may_lack = λ i j. at_pair (λ s k. may_lack_by verifiers (message_of token s) s k) false token keys i j;
  cost = λ i j. at_pair (λ s k. cost_by (message_of token s) s k) 0 token keys i j;
}
