-- The faults of a text that is no single block.
use Rattle.jwt_jwk.specs.declared.text_blocks.fault.PemFault.{PemFault}
use Rattle.jwt_jwk.specs.declared.text_blocks.fault.PemFault.TheVariants as pem
use Rattle.jwt_jwk.specs.declared.fault.JwkFault.{JwkFault}
use Rattle.jwt_jwk.specs.declared.fault.JwkFault.TheVariants.{Pem, OutOfMemory}

-- why octets are no key in either encoding: want of memory, else why they aren't in the first
abbrev pub of_both : JwkFault → JwkFault → JwkFault
of_both first OutOfMemory = OutOfMemory
of_both first _ = first

abbrev pub pem_fault : PemFault → JwkFault
pem_fault pem.PrivateKey = Pem pem.PrivateKey
pem_fault pem.Certificate = Pem pem.Certificate
pem_fault pem.OpenSsh = Pem pem.OpenSsh
pem_fault pem.Line = Pem pem.Line
pem_fault pem.Trailing = Pem pem.Trailing
pem_fault pem.Base64 = Pem pem.Base64
pem_fault pem.OutOfMemory = OutOfMemory
