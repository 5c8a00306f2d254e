-- ---- What contracts of public functions cite, in reading order

-- what the built-in verifier means
pub mod Meanings
-- the keys that the built-in verifier has prepared
pub mod Held
