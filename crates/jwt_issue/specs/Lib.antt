-- ---- What contracts of public functions cite, in reading order

-- the claims to be signed
pub mod ClaimSets
-- the names of faults
pub mod FaultNames
-- an issued token
pub mod Issued
-- a token issued by the keys of a set
pub mod Options
-- the cost of issuing, taken from a budget
pub mod Paying
-- the signed token that is issued, as it is read
pub mod Signed
-- this crate's values as contracts see them
pub mod Views
-- ---- What contracts of private functions alone cite, which nobody has to believe

-- tokens with one signature, in either form that has just one
pub mod Single
