-- What the built-in verifier means.
use Rattle.std.specs.Prelude.{ℕ, Bool, false, List, [], ◌∷◌, Option, Some, None, is_some}
use Rattle.jwt_mac.specs.declared.algorithm.Alg.{Alg}
use Rattle.jwt_mac.specs.Verifying.{Meaning, KeyOctets, MessageOctets, first_naming}
use Rattle.jwt_rsa.specs.Meanings.{rsa_meaning}
use Rattle.ecdsa.specs.jws.Meanings.{ecdsa_meaning}
use Rattle.jwt_ed25519.specs.Meanings.{ed25519_meaning}

-- whether this verifier, if there is one, accepts the signature
abbrev pub accepted_by : Option Meaning → Alg → KeyOctets → MessageOctets → List ℕ → Bool
accepted_by None alg key message signature = false
accepted_by (Some verifier) alg key message signature = verifier.accepts alg key message signature

-- whether it may lack memory
abbrev pub lacked_by : Option Meaning → Alg → KeyOctets → MessageOctets → List ℕ → Bool
lacked_by None alg key message signature = false
lacked_by (Some verifier) alg key message signature = verifier.may_lack alg key message signature

-- these verifiers as one: the first of them that names an algorithm decides
abbrev pub as_one : List Meaning → Meaning
as_one verifiers = record {
  named = λ alg. is_some (first_naming verifiers alg);
  accepts = λ alg. accepted_by (first_naming verifiers alg) alg;
  may_lack = λ alg. lacked_by (first_naming verifiers alg) alg;
}

-- the verifiers of RSA (RFC 7518, sections 3.3 and 3.5), ECDSA (section 3.4) and Ed25519 (RFC 8037, section 3.1)
abbrev pub built_in_meaning : Meaning
built_in_meaning = as_one (rsa_meaning ∷ ecdsa_meaning ∷ ed25519_meaning ∷ [])
