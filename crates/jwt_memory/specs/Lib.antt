-- ---- What contracts of public functions cite, in reading order

-- the laws of a memory
pub mod Laws
-- the payload of a token that is kept, and what is handed out of one that is judged
pub mod Payloads
-- the table of a memory
pub mod Tables
-- the entries of a memory
pub mod Entries
-- an outcome as contracts see it
pub mod Outcomes
-- the invariant of each token that a memory keeps
pub mod Kept
