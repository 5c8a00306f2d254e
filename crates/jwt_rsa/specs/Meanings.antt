-- The meanings of this crate's verifiers.
use Rattle.std.specs.Prelude.{ℕ, Bool, true, false, ◌||◌, List}
use Rattle.jwt_mac.specs.declared.algorithm.Alg.{Alg}
use Rattle.jwt_mac.specs.declared.algorithm.Kind.{Kind}
use Rattle.jwt_mac.specs.declared.algorithm.Kind.TheVariants.{Pkcs1, Pss}
use Rattle.jwt_mac.specs.Algorithm.{kind_of}
use Rattle.jwt_mac.specs.Verifying.{Meaning, KeyOctets, RsaKey, signing_input}
use Rattle.jwt_rsa.specs.Pkcs1.{pkcs1_accepts}
use Rattle.jwt_rsa.specs.Pss.{pss_accepts}

-- the algorithms of RFC 7518, section 3.3
abbrev pub is_pkcs1 : Kind → Bool
is_pkcs1 (Pkcs1 hash) = true
is_pkcs1 _ = false

abbrev pub names_rs : Alg → Bool
names_rs alg = is_pkcs1 (kind_of alg)

-- the signature octets are RSASSA-PKCS1-v1_5's, by the hash function of the algorithm
abbrev pub pkcs1_by : Kind → KeyOctets → List ℕ → List ℕ → Bool
pkcs1_by (Pkcs1 hash) (RsaKey n e) input signature = pkcs1_accepts hash n e input signature
pkcs1_by _ _ input signature = false

abbrev pub accepts_rs : Alg → KeyOctets → List ℕ → List ℕ → Bool
accepts_rs alg = pkcs1_by (kind_of alg)

-- the verifier `Pkcs1`, which never lacks memory
abbrev pub pkcs1_meaning : Meaning
pkcs1_meaning = record {
  named = names_rs;
  accepts = λ alg key message signature. accepts_rs alg key (signing_input message) signature;
  may_lack = λ alg key message signature. false;
}

-- the algorithms of RFC 7518, section 3.5
abbrev pub is_pss : Kind → Bool
is_pss (Pss hash) = true
is_pss _ = false

abbrev pub names_ps : Alg → Bool
names_ps alg = is_pss (kind_of alg)

-- the signature octets are RSASSA-PSS's, by the hash function of the algorithm
abbrev pub pss_by : Kind → KeyOctets → List ℕ → List ℕ → Bool
pss_by (Pss hash) (RsaKey n e) input signature = pss_accepts hash n e input signature
pss_by _ _ input signature = false

abbrev pub accepts_ps : Alg → KeyOctets → List ℕ → List ℕ → Bool
accepts_ps alg = pss_by (kind_of alg)

-- the verifier `Pss`, which never lacks memory
abbrev pub pss_meaning : Meaning
pss_meaning = record {
  named = names_ps;
  accepts = λ alg key message signature. accepts_ps alg key (signing_input message) signature;
  may_lack = λ alg key message signature. false;
}

-- the verifier `Rsa`: both
abbrev pub rsa_meaning : Meaning
rsa_meaning = record {
  named = λ alg. names_rs alg || names_ps alg;
  accepts = λ alg key message signature. accepts_rs alg key (signing_input message) signature || accepts_ps alg key (signing_input message) signature;
  may_lack = λ alg key message signature. false;
}
