-- ---- What contracts of public functions cite, in reading order

-- a field of an answer, and how a list of fields is printed
pub mod Fields
-- the lists of fields that the answers of `verify` are
pub mod Verdicts
