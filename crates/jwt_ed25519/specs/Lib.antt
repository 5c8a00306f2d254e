-- ---- What contracts of public functions cite, in reading order

-- the field of Ed25519
pub mod Field
-- numbers as octets, the least significant first
pub mod Octets
-- points of Ed25519, their sums and their multiples
pub mod Points
-- points from octets
pub mod Decoding
-- points to octets
pub mod Encoding
-- signatures by Ed25519
pub mod Verifying
-- the meaning of this crate's verifier
pub mod Meanings
-- the keys that are prepared
pub mod Held
-- the keys that a verifier of Ed25519 has prepared
pub mod Room
-- numbers of 256 bits, as four limbs of 64
pub mod Limbs
-- the elements of the field and the points, as they are held
pub mod Elements
-- tables of a point's windows
pub mod Windows
