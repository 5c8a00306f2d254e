-- ---- What contracts of public functions cite, in reading order

-- ES256, ES384 and ES512
pub mod Verifying
-- the meaning of this crate's verifier
pub mod Meanings
-- the keys that a verifier of ECDSA has prepared
pub mod Held
