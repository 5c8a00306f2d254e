-- The names of faults, and the commands that make a public key of what is refused.
use Rattle.std.specs.Prelude.{ℕ, List, Option, Some, None, codes}
use Rattle.jwt_jwk.specs.declared.der.refusal.Refusal.{Refusal}
use Rattle.jwt_jwk.specs.declared.der.refusal.Refusal.TheVariants as key
use Rattle.jwt_jwk.specs.declared.text_blocks.fault.PemFault.{PemFault}
use Rattle.jwt_jwk.specs.declared.text_blocks.fault.PemFault.TheVariants as pem
use Rattle.jwt_jwk.specs.declared.fault.JwkFault.{JwkFault}
use Rattle.jwt_jwk.specs.declared.fault.JwkFault.TheVariants.{Pem, Key, TooManyKeys, OutOfMemory}

-- why a text is no block
abbrev pub pem_name : PemFault → List ℕ
pem_name pem.PrivateKey = codes "PrivateKey"
pem_name pem.Certificate = codes "Certificate"
pem_name pem.OpenSsh = codes "OpenSsh"
pem_name pem.Line = codes "Line"
pem_name pem.Trailing = codes "Trailing"
pem_name pem.Base64 = codes "Base64"
pem_name pem.OutOfMemory = codes "OutOfMemory"

-- why octets are no public key
abbrev pub key_name : Refusal → List ℕ
key_name key.Element = codes "Element"
key_name key.Trailing = codes "Trailing"
key_name key.Bits = codes "Bits"
key_name key.Algorithm = codes "Algorithm"
key_name key.RsaPss = codes "RsaPss"
key_name key.ExplicitCurve = codes "ExplicitCurve"
key_name key.Number = codes "Number"
key_name key.Point = codes "Point"
key_name key.Compressed = codes "Compressed"
key_name key.OffCurve = codes "OffCurve"
key_name key.KeySize = codes "KeySize"

abbrev pub jwk_fault_name : JwkFault → List ℕ
jwk_fault_name (Pem fault) = pem_name fault
jwk_fault_name (Key refusal) = key_name refusal
jwk_fault_name TooManyKeys = codes "TooManyKeys"
jwk_fault_name OutOfMemory = codes "OutOfMemory"

-- the command that makes a public key of such a text, where there is one
abbrev pub remedy : JwkFault → Option (List ℕ)
remedy (Pem pem.PrivateKey) = Some (codes "openssl pkey -pubout")
remedy (Pem pem.Certificate) = Some (codes "openssl x509 -pubkey -noout")
remedy (Pem pem.OpenSsh) = Some (codes "ssh-keygen -e -m PKCS8 -f FILE")
remedy (Key key.Compressed) = Some (codes "openssl ec -pubin -conv_form uncompressed")
remedy (Key key.ExplicitCurve) = Some (codes "openssl ec -pubin -param_enc named_curve")
remedy _ = None
