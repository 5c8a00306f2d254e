-- The answer of `jwt jwk`.
use Rattle.std.specs.Prelude.{◌≡◌, ◌≢◌, ◌≤◌, ◌<◌, ◌⊎◌, ℕ, ◌==◌, ◌&&◌, nat_le, Bool, true, false, List, [], ◌∷◌, length, codes, Option, Some, None, option_and_then, unwrap_or, if◌then◌else◌}
use Rattle.jwt_mac.specs.Algorithm.{digest_size, name_of}
use Rattle.jwt_mac.specs.Verifying.{KeyOctets, OctKey}
use Rattle.jwt_mac.specs.declared.algorithm.Alg.{Alg}
use Rattle.jwt_jwk.specs.der.Der.{IsPublicKey}
use Rattle.jwt_jwk.specs.declared.text_blocks.label.Label.{Label}
use Rattle.jwt_jwk.specs.Jwk.{jwk_text, thumbprint_of_key}
use Rattle.jwt_jwk.specs.Sets.{jwk_set_text}
use Rattle.jwt_jwk.specs.FaultNames.{jwk_fault_name, remedy}
use Rattle.jwt_jwk.specs.declared.fault.JwkFault.{JwkFault}
use Rattle.jwt_jwk.specs.declared.fault.JwkFault.TheVariants.{OutOfMemory}
use Rattle.jwt_jwk.specs.Converted.{IsEncoding, IsFileOf, IsJwkOf, IsJwkOfPem, IsPemOf, IsSetOf, IsSetOfOne}
use Rattle.jwt_jwk.specs.Refusals.{IsDerFault, IsPemFault, IsSetFault}
use Rattle.jwt_text.specs.declared.limits.TheConstants.{LONGEST_KEY_SET}
use Rattle.jwt_words.specs.InHand.{Held}
use Rattle.jwt_words.specs.Words.{JwkOrder, KidChoice, KidNamed, KidThumbprint, NoKid, SecretOrder}
use Rattle.jwt_output.specs.Jwk.{jwk_line, jwk_refused, random_failed}
use Rattle.jwt_output.specs.Printed.{Answer}
use Rattle.jwt_output.specs.verdicts.Printer.{printer}

-- the `kid` of a key
abbrev pub kid_by : KidChoice → KeyOctets → Option (List ℕ)
kid_by NoKid = λ key. None
kid_by (KidNamed text) = λ key. Some text
kid_by KidThumbprint = λ key. Some (thumbprint_of_key key)

-- ---- public keys

-- what is printed of octets: the JWK of one key alone, in DER or in PEM, or the key set of one in DER, or of all in a PEM file
abbrev pub IsPrintedAs : Bool → Bool → (KeyOctets → Option (List ℕ)) → Option (List ℕ) → List ℕ → List ℕ → Type 0
IsPrintedAs true true kid alg octets json = IsJwkOf octets kid alg json
IsPrintedAs true false kid alg octets json = IsSetOfOne octets kid alg json
IsPrintedAs false true kid alg octets json = IsJwkOfPem octets kid alg json
IsPrintedAs false false kid alg octets json = IsSetOf octets kid alg json

abbrev pub IsPrinted : JwkOrder → List ℕ → List ℕ → Type 0
IsPrinted order = IsPrintedAs order.der order.bare (kid_by order.kid) order.alg

-- the octets are public keys as they are asked for: one in DER, one in PEM, or 1 to 1,024 in a PEM file
abbrev pub AreKeysAs : Bool → Bool → List ℕ → Type 0
AreKeysAs true bare octets = (label : Label) × (key : KeyOctets) × IsPublicKey key × IsEncoding label key octets
AreKeysAs false true octets = (key : KeyOctets) × IsPemOf key octets
AreKeysAs false false octets = (key : KeyOctets) × (keys : List KeyOctets) × IsFileOf (key ∷ keys) octets × (length keys ≤ 1023)

abbrev pub AreKeys : JwkOrder → List ℕ → Type 0
AreKeys order = AreKeysAs order.der order.bare

-- why octets aren't what is asked for
abbrev pub IsFaultAs : Bool → Bool → List ℕ → JwkFault → Type 0
IsFaultAs true bare octets fault = IsDerFault octets fault
IsFaultAs false true octets fault = IsPemFault octets fault
IsFaultAs false false octets fault = IsSetFault octets fault

-- the line of the fault that octets have, but for want of memory: with its name and its remedy
abbrev pub IsRefusal : JwkOrder → List ℕ → Answer → Type 0
IsRefusal order octets a = (fault : JwkFault) × (fault ≢ OutOfMemory) × IsFaultAs order.der order.bare octets fault × (a ≡ jwk_refused order.printing (jwk_fault_name fault) (remedy fault))

-- what is printed of octets; or they aren't what is asked for, and are refused
abbrev pub JwkOfKeys : JwkOrder → List ℕ → Answer → Type 0
JwkOfKeys order octets a = ((json : List ℕ) × IsPrinted order octets json × (a ≡ jwk_line json)) ⊎ ((AreKeys order octets → ⊥) × IsRefusal order octets a)

-- at most 4,194,304 octets are taken
abbrev pub JwkOfOctets : JwkOrder → List ℕ → Answer → Type 0
JwkOfOctets order octets a = ((length octets ≤ LONGEST_KEY_SET) × JwkOfKeys order octets a) ⊎ ((LONGEST_KEY_SET < length octets) × (a ≡ jwk_refused order.printing (codes "TooLong") None))

-- of an input, by a reader that has failed or not
abbrev pub JwkOfInput : JwkOrder → Bool → List ℕ → Answer → Type 0
JwkOfInput order true x a = a ≡ (printer order.printing).read_failed
JwkOfInput order false x a = JwkOfOctets order x a

-- the answer: of what a file holds, or of the input
abbrev pub IsJwkAnswer : JwkOrder → Option (List ℕ) → Bool → List ℕ → Answer → Type 0
IsJwkAnswer order (Some octets) failed x a = JwkOfOctets order octets a
IsJwkAnswer order None failed x a = JwkOfInput order failed x a

-- ---- new secrets

-- the octets that the system's random source gave, where it gave just as many as a digest has
abbrev pub whole_secret : ℕ → List ℕ → Option (List ℕ)
whole_secret size octets = if length octets == size then Some octets else None

abbrev pub fresh_secret : Alg → Option (List ℕ) → Option (List ℕ)
fresh_secret alg random = option_and_then (whole_secret (digest_size alg)) random

-- a secret with this `kid`, for this algorithm alone: its JWK, or the key set of it
abbrev pub secret_named : Bool → Alg → (kid k : List ℕ) → List ℕ
secret_named true alg kid k = jwk_text (Some kid) (Some (name_of alg)) (OctKey k)
secret_named false alg kid k = jwk_set_text (kid_by (KidNamed kid)) (Some (name_of alg)) (OctKey k ∷ [])

-- with the `kid` that is asked for, or else its thumbprint
abbrev pub secret_json : SecretOrder → List ℕ → List ℕ
secret_json order k = secret_named order.bare order.alg (unwrap_or order.kid (thumbprint_of_key (OctKey k))) k

abbrev pub secret_line : SecretOrder → Option (List ℕ) → Answer
secret_line order (Some k) = jwk_line (secret_json order k)
secret_line order None = random_failed order.printing

-- the octets of a file, where they are a key for the algorithm: as many as a digest has, or more (RFC 7518, section 3.2), and at most 4,096
abbrev pub kept_secret : ℕ → List ℕ → Option (List ℕ)
kept_secret size octets = if nat_le size (length octets) && nat_le (length octets) 4096 then Some octets else None

abbrev pub kept_secret_line : SecretOrder → Option (List ℕ) → Answer
kept_secret_line order (Some k) = jwk_line (secret_json order k)
kept_secret_line order None = jwk_refused order.printing (codes "KeySize") None

-- the answer: of a file, or a new one
abbrev pub secret_answer : Option (List ℕ) → SecretOrder → Held → Answer
secret_answer (Some name) order held = kept_secret_line order (option_and_then (kept_secret (digest_size order.alg)) held.key)
secret_answer None order held = secret_line order (fresh_secret order.alg held.random)
