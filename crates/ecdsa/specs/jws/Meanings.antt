-- The meaning of this crate's verifier.
use Rattle.std.specs.Prelude.{ℕ, Bool, true, false, List}
use Rattle.jwt_mac.specs.declared.algorithm.Alg.{Alg}
use Rattle.jwt_mac.specs.declared.algorithm.Kind.{Kind}
use Rattle.jwt_mac.specs.declared.algorithm.Kind.TheVariants.{Ecdsa}
use Rattle.jwt_mac.specs.Algorithm.{kind_of}
use Rattle.jwt_mac.specs.declared.key_view.EcCurve.TheVariants.{P256, P384, P521}
use Rattle.jwt_mac.specs.Verifying.{Meaning, KeyOctets, EcKey, signing_input}
use Rattle.ecdsa.specs.jws.Verifying.{es256, es384, es512}

-- ECDSA with SHA-2 (RFC 7518, section 3.4)
abbrev pub is_ecdsa : Kind → Bool
is_ecdsa (Ecdsa curve) = true
is_ecdsa _ = false

abbrev pub names_ecdsa : Alg → Bool
names_ecdsa alg = is_ecdsa (kind_of alg)

-- each curve's algorithm with a key of that curve
abbrev pub ecdsa_by : Kind → KeyOctets → List ℕ → List ℕ → Bool
ecdsa_by (Ecdsa P256) (EcKey P256 x y) input signature = es256 x y input signature
ecdsa_by (Ecdsa P384) (EcKey P384 x y) input signature = es384 x y input signature
ecdsa_by (Ecdsa P521) (EcKey P521 x y) input signature = es512 x y input signature
ecdsa_by _ _ input signature = false

abbrev pub accepts_ecdsa : Alg → KeyOctets → List ℕ → List ℕ → Bool
accepts_ecdsa alg = ecdsa_by (kind_of alg)

-- the verifier `Ecdsa`, which never lacks memory
abbrev pub ecdsa_meaning : Meaning
ecdsa_meaning = record {
  named = names_ecdsa;
  accepts = λ alg key message signature. accepts_ecdsa alg key (signing_input message) signature;
  may_lack = λ alg key message signature. false;
}
