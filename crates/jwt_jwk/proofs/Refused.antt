-- A file of one key is refused for want of memory alone.
use Rattle.std.proofs.Common.{◌≡◌, List, ℕ, Result, Ok, Err, refl}
use Rattle.jwt_jwk.specs.declared.text_blocks.fault.PemFault.{PemFault}
use Rattle.jwt_jwk.specs.declared.text_blocks.fault.PemFault.TheVariants as pem
use Rattle.jwt_jwk.specs.declared.text_blocks.label.Label.{Label}
use Rattle.jwt_mac.specs.Verifying.{KeyOctets}
use Rattle.jwt_jwk.specs.declared.fault.JwkFault.TheVariants.{OutOfMemory}
use Rattle.jwt_jwk.specs.Faults.{pem_fault}
use Rattle.jwt_jwk.specs.Converted.{IsEncoding}

abbrev pub fails : {T : Type 0} → PemFault → Result T PemFault
fails e = Err e

abbrev pub gives : {T : Type 0} → T → Result T PemFault
gives x = Ok x

pub value_is_no_fault : {T : Type 0} (x : T) (e : PemFault) → gives x ≡ fails e → ⊥
value_is_no_fault x e h = cc

other : {T : Type 0} (f : PemFault) → (f ≡ pem.OutOfMemory → ⊥) → fails {T = T} f ≡ fails pem.OutOfMemory → ⊥
other f never h = never cc

private_is : pem.PrivateKey ≡ pem.OutOfMemory → ⊥
private_is e = cc

certificate_is : pem.Certificate ≡ pem.OutOfMemory → ⊥
certificate_is e = cc

open_ssh_is : pem.OpenSsh ≡ pem.OutOfMemory → ⊥
open_ssh_is e = cc

line_is : pem.Line ≡ pem.OutOfMemory → ⊥
line_is e = cc

trailing_is : pem.Trailing ≡ pem.OutOfMemory → ⊥
trailing_is e = cc

base64_is : pem.Base64 ≡ pem.OutOfMemory → ⊥
base64_is e = cc

pub for_memory : {T : Type 0} (f : PemFault) → ((fails {T = T} f ≡ fails pem.OutOfMemory → ⊥) → ⊥) → pem_fault f ≡ OutOfMemory
for_memory {T} pem.PrivateKey h = absurd (h (other {T = T} pem.PrivateKey private_is))
for_memory {T} pem.Certificate h = absurd (h (other {T = T} pem.Certificate certificate_is))
for_memory {T} pem.OpenSsh h = absurd (h (other {T = T} pem.OpenSsh open_ssh_is))
for_memory {T} pem.Line h = absurd (h (other {T = T} pem.Line line_is))
for_memory {T} pem.Trailing h = absurd (h (other {T = T} pem.Trailing trailing_is))
for_memory {T} pem.Base64 h = absurd (h (other {T = T} pem.Base64 base64_is))
for_memory {T} pem.OutOfMemory h = refl

pub encoded_here : (label found : Label) (k : KeyOctets) (octets here : List ℕ) → found ≡ label → here ≡ octets → IsEncoding label k octets → IsEncoding found k here
encoded_here label found k octets here same is encoded =
    rw (same, is) encoded
