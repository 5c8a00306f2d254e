-- ---- What contracts of public functions cite, in reading order

-- public keys in DER
pub mod der
-- texts between labels
pub mod text_blocks
-- the JWK of a key, and how it is read back
pub mod Jwk
-- the key set of JWKs, and how it is read back
pub mod Sets
-- the public key in a text, and its JWK
pub mod Converted
-- why there is no JWK
pub mod Refusals
-- the names of faults, and the commands that make a public key of what is refused
pub mod FaultNames
-- ---- What contracts of private functions alone cite, which nobody has to believe

-- the faults of a text that is no single block
pub mod Faults
