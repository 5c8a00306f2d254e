-- ---- What contracts of public functions cite, in reading order

-- the digest that a pair of issuer and `jti` is held by
pub mod Marks
-- the tables of a memory
pub mod Tables
-- what one call does
pub mod Steps
-- what one call for an accepted token does
pub mod Accepted
-- that marks tell apart, and what many calls do
pub mod Laws
