-- ---- What contracts of public functions cite, in reading order

-- a signed token, as the crates above see it
pub mod Token
-- the signed token that octets are, or the first cause why they are none
pub mod Forms
-- compact form
pub mod CompactForm
-- names that stand twice in `crit`
pub mod Crit
-- the names of faults
pub mod FaultNames
-- signed tokens and their signatures, as properties of octets
pub mod SignedToken
-- the faults of form
pub mod FormFaults
-- this crate's values as contracts see them
pub mod Views
