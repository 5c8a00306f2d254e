-- The meaning of this crate's verifier.
use Rattle.std.specs.Prelude.{ℕ, Bool, true, false, List}
use Rattle.jwt_mac.specs.declared.algorithm.Alg.{Alg}
use Rattle.jwt_mac.specs.declared.algorithm.Kind.{Kind}
use Rattle.jwt_mac.specs.declared.algorithm.Kind.TheVariants.{EdDsa}
use Rattle.jwt_mac.specs.Algorithm.{kind_of}
use Rattle.jwt_mac.specs.declared.key_view.EdCurve.TheVariants.{Ed25519}
use Rattle.jwt_mac.specs.Verifying.{Meaning, KeyOctets, OkpKey, signing_input}
use Rattle.jwt_ed25519.specs.Verifying.{is_signature}

-- EdDSA (RFC 8037, section 3.1)
abbrev pub is_eddsa : Kind → Bool
is_eddsa EdDsa = true
is_eddsa _ = false

abbrev pub names_eddsa : Alg → Bool
names_eddsa alg = is_eddsa (kind_of alg)

-- the signature octets are those of Ed25519 (RFC 8032, section 5.1.7), by a key of that curve
abbrev pub ed25519_by : Kind → KeyOctets → List ℕ → List ℕ → Bool
ed25519_by EdDsa (OkpKey Ed25519 x) input signature = is_signature x input signature
ed25519_by _ _ input signature = false

abbrev pub accepts_ed25519 : Alg → KeyOctets → List ℕ → List ℕ → Bool
accepts_ed25519 alg = ed25519_by (kind_of alg)

-- the verifier `Ed25519`, which never lacks memory
abbrev pub ed25519_meaning : Meaning
ed25519_meaning = record {
  named = names_eddsa;
  accepts = λ alg key message signature. accepts_ed25519 alg key (signing_input message) signature;
  may_lack = λ alg key message signature. false;
}
