-- ---- What contracts of public functions cite, in reading order

-- numbers as limbs of 64 bits
pub mod Limbs
-- numbers as octets
pub mod Octets
-- the moduli of RSA keys
pub mod Moduli
