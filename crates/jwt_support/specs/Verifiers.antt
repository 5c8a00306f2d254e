-- The meanings of the tests' verifiers.
use Rattle.std.specs.Prelude.{Bool, false, ◌&&◌, List, ℕ}
use Rattle.std.specs.Str.{bytes_eq}
use Rattle.jwt_mac.specs.declared.algorithm.Alg.{Alg}
use Rattle.jwt_mac.specs.Algorithm.{name_of}
use Rattle.jwt_mac.specs.Verifying.{Meaning, KeyOctets, RsaKey, OkpKey}

-- the signature's octets are the modulus, or the public key
abbrev pub is_public : KeyOctets → List ℕ → Bool
is_public (RsaKey n e) signature = bytes_eq n signature
is_public (OkpKey curve x) signature = bytes_eq x signature
is_public _ signature = false

-- it names one algorithm, and accepts where the signature is the public key, or never; it may lack memory, or not
abbrev pub test_meaning : Alg → Bool → Bool → Meaning
test_meaning own accepts may_lack = record {
  named = λ alg. bytes_eq (name_of alg) (name_of own);
  accepts = λ alg key message signature. accepts && is_public key signature;
  may_lack = λ alg key message signature. may_lack;
}
