-- A signature that is tried, and the pairs that are tried of it.
use Rattle.std.specs.Prelude.{ℕ, ◌+◌, ◌<◌, ◌≡◌, Bool, true, false, List, [], ◌∷◌, ◌++◌, length, map, slice_get, Option, Some, None, option_map}
use Rattle.std.specs.Str.{bytes_eq}
use Rattle.jwt_mac.specs.declared.algorithm.Alg.{Alg}
use Rattle.jwt_mac.specs.Algorithm.{is_hmac_alg, tag_of, try_cost}
use Rattle.jwt_mac.specs.Verifying.{Meaning, KeyOctets, OctKey, MessageOctets, key_octets, message_octets, signing_input, first_naming}
use Rattle.jwt_jws.specs.Views.{token, parts}
use Rattle.jwt_policy.specs.Bars.{alg, bar_of}
use Rattle.jwt_verify.specs.declared.terms.Terms.{Terms as CodeTerms}
use Rattle.jwt_verify.specs.declared.live_signature.Numbered.{Numbered}
use Rattle.jwt_verify.specs.declared.live_signature.LiveSignature.{LiveSignature}
use Rattle.jwt_verify.specs.declared.pair.Way.{Way}
use Rattle.jwt_verify.specs.declared.pair.Way.TheVariants as way
use Rattle.jwt_verify.specs.declared.pair.Pair.{Pair}
use Rattle.jwt_verify.specs.declared.report.Try.{Try}
use Rattle.jwt_verify.specs.TermsTable.{Means}
use Rattle.jwt_verify.specs.declared.tries.Tried.{Tried}
use Rattle.jwt_verify.specs.declared.tries.Tried.TheVariants.{Verified, Failed, Stop}
use Rattle.jwt_verify.specs.declared.tries.End.{End}
use Rattle.jwt_verify.specs.declared.tries.End.TheVariants.{Done, WorkExceeded, CallsExceeded, VerifierMemory}
use Rattle.jwt_verify.specs.declared.signature_outcome.Signing.{Signing}
use Rattle.jwt_verify.specs.SignatureOutcome.{signing_view}
use Rattle.jwt_verify.specs.Table.{Table, work, is_within}
use Rattle.jwt_verify.specs.Verdict.{signing_of}
use Rattle.jwt_verify.specs.Walk.{IsNextKey}

-- ---- a signature

-- signatures by the algorithm are verified by HMAC, or by the first verifier that names it
abbrev pub IsVerifier : List Meaning → Alg → Option Meaning → Type 0
IsVerifier verifiers algorithm None = is_hmac_alg algorithm ≡ true
IsVerifier verifiers algorithm (Some verifier) = (is_hmac_alg algorithm ≡ false) × (first_naming verifiers algorithm ≡ Some verifier)

-- it is this signature of its token, nothing bars it, and its algorithm and its verifier are these
pub record IsLive {V : Type 0} {D : V → Type 0} (means : Means V D) (terms : CodeTerms V D) (live : LiveSignature V D) : Type 0 where
  pub signature : slice_get (token live.signed.now).signatures live.number ≡ Some (parts live.signature.now)
  pub unbarred : bar_of terms.policy.now (parts live.signature.now) (map means terms.verifiers.now) ≡ None
  pub named : alg (parts live.signature.now) ≡ Some live.alg
  pub verifier : IsVerifier (map means terms.verifiers.now) live.alg (option_map (λ v. means v.now) live.verifier)

-- it is this one of its token
abbrev pub IsThere : Numbered → Type 0
IsThere numbered = slice_get (token numbered.signed.now).signatures numbered.number ≡ Some (parts numbered.signature.now)

pub record IsLiveOf {V : Type 0} {D : V → Type 0} (means : Means V D) (terms : CodeTerms V D) (numbered : Numbered) (live : LiveSignature V D) : Type 0 where
  pub same_token : live.signed.now ≡ numbered.signed.now
  pub same_number : live.number ≡ numbered.number
  pub is_live : IsLive means terms live

-- ---- the try of a pair

-- tags are for HMAC, verifiers for other algorithms
abbrev pub IsFor : {V : Type 0} {D : V → Type 0} → Alg → Way V D → Type 0
IsFor algorithm (way.Tag secret) = is_hmac_alg algorithm ≡ true
IsFor algorithm (way.ByVerifier verifier key) = is_hmac_alg algorithm ≡ false

-- the key is a secret
abbrev pub IsSecret : KeyOctets → Type 0
IsSecret key = (secret : List ℕ) × (key ≡ OctKey secret)

-- by the algorithm and the key: a secret gives a tag, and the verifier is asked about the key
abbrev pub IsWay : {V : Type 0} {D : V → Type 0} → Means V D → Option Meaning → KeyOctets → Way V D → Type 0
IsWay means verifier key (way.Tag secret) = (verifier ≡ None) × (key ≡ OctKey secret.now)
IsWay means verifier key (way.ByVerifier asked view) = (verifier ≡ Some (means asked.now)) × (key ≡ key_octets view)

-- the signature is the tag, or the verifier accepts it
abbrev pub way_accepts : {V : Type 0} {D : V → Type 0} → Means V D → Alg → MessageOctets → List ℕ → Way V D → Bool
way_accepts means algorithm message signature (way.Tag secret) = bytes_eq signature (tag_of algorithm secret.now (signing_input message))
way_accepts means algorithm message signature (way.ByVerifier verifier key) = (means verifier.now).accepts algorithm (key_octets key) message signature

-- the verifier may lack memory
abbrev pub way_may_lack : {V : Type 0} {D : V → Type 0} → Means V D → Alg → MessageOctets → List ℕ → Way V D → Bool
way_may_lack means algorithm message signature (way.Tag secret) = false
way_may_lack means algorithm message signature (way.ByVerifier verifier key) = (means verifier.now).may_lack algorithm (key_octets key) message signature

-- the octets that the try feeds to HMAC (RFC 2104, section 2)
abbrev pub way_cost : {V : Type 0} {D : V → Type 0} → Alg → MessageOctets → Way V D → ℕ
way_cost algorithm message (way.Tag secret) = try_cost algorithm (length secret.now) (length (signing_input message))
way_cost algorithm message (way.ByVerifier verifier key) = 0

abbrev pub pair_accepts : {V : Type 0} {D : V → Type 0} → Means V D → Pair V D → Bool
pair_accepts means pair = way_accepts means pair.alg (message_octets pair.message) pair.octets.now pair.way

abbrev pub pair_may_lack : {V : Type 0} {D : V → Type 0} → Means V D → Pair V D → Bool
pair_may_lack means pair = way_may_lack means pair.alg (message_octets pair.message) pair.octets.now pair.way

abbrev pub pair_cost : {V : Type 0} {D : V → Type 0} → Pair V D → ℕ
pair_cost pair = way_cost pair.alg (message_octets pair.message) pair.way

-- what is listed of its try
abbrev pub pair_entry : {V : Type 0} {D : V → Type 0} → Pair V D → Try
pair_entry pair = record { signature = pair.signature; key = pair.key; cost = pair_cost pair }

-- the pair of the signature and its next eligible key, as the table has it
pub record IsNextPair {V : Type 0} {D : V → Type 0} (means : Means V D) (table : Table) (number from : ℕ) (pair : Pair V D) : Type 0 where
  pub next : IsNextKey table number from pair.key
  pub signature : pair.signature ≡ number
  pub is_for : IsFor pair.alg pair.way
  pub valid : table.valid number pair.key ≡ pair_accepts means pair
  pub may_lack : table.may_lack number pair.key ≡ pair_may_lack means pair
  pub cost : table.cost number pair.key ≡ pair_cost pair

-- what its try came to, by the tries before it and those after it
abbrev pub IsTried : {V : Type 0} {D : V → Type 0} → Means V D → ℕ → Option ℕ → List Try → Pair V D → List Try → Tried → Type 0
IsTried means ceiling calls before pair after Verified = (after ≡ before ++ pair_entry pair ∷ []) × (pair_accepts means pair ≡ true)
IsTried means ceiling calls before pair after Failed = (after ≡ before ++ pair_entry pair ∷ []) × (pair_accepts means pair ≡ false)
IsTried means ceiling calls before pair after (Stop (WorkExceeded signature key)) =
    (signature ≡ pair.signature) × (key ≡ pair.key) × (after ≡ before) × (ceiling < work before + pair_cost pair) × (is_within calls (length before + 1) ≡ true)
IsTried means ceiling calls before pair after (Stop (CallsExceeded signature key)) = (signature ≡ pair.signature) × (key ≡ pair.key) × (after ≡ before) × (is_within calls (length before + 1) ≡ false)
IsTried means ceiling calls before pair after (Stop (VerifierMemory signature key)) =
    (signature ≡ pair.signature) × (key ≡ pair.key) × (after ≡ before ++ pair_entry pair ∷ []) × (pair_may_lack means pair ≡ true)
IsTried means ceiling calls before pair after (Stop Done) = ⊥

-- ---- all signatures

-- what they come to, where each try was made
abbrev pub IsSigned : Table → Signing → End → Type 0
IsSigned table signing Done = signing_view signing ≡ signing_of table
IsSigned table signing _ = Unit {0}
