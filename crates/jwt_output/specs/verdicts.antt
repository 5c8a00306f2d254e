-- ---- What contracts of public functions cite, in reading order

-- what the claims of an accepted token don't meet
pub mod Denied
-- the answer to a token
pub mod Verdicts
-- what a run left of signatures and tries, as `verify --json` prints it
pub mod VerdictsJson
-- the two ways to print an answer of `verify`
pub mod Printer
-- values of the code as this crate's contracts see them
pub mod Views
-- the output of `jwt policy`
pub mod Meant
