-- ---- What contracts of public functions cite, in reading order

-- the access rule of `verify`
pub mod Access
-- one line of an input
pub mod TakenLines
-- the documents of a command
pub mod Documents
-- the answer of `jwt issue`
pub mod Issue
-- the status of `jwt keys`, and its answer to a set that is refused
pub mod Keys
-- the result of `jwt mac`, and its line
pub mod Mac
-- the status of `jwt show`
pub mod Show
-- the answer of `jwt verify`
pub mod Verify
-- the lines of an input, and the answers to them
pub mod Lines
-- the end of a run of `verify --lines`
pub mod RunLines
-- the answer of `jwt jwk`
pub mod Jwk
-- the status of `jwt policy --service`, by what it advises of each issuer
pub mod Services
-- the status of `jwt policy`, by what it advises, and its answer to a policy and a key set that are refused
pub mod Policy
-- the answer of the command, where that is one
pub mod Answered
-- the amount that is taken of an input
pub mod Stops
-- the end of a run of the command
pub mod Runs
-- ---- What contracts of private functions alone cite, which nobody has to believe

-- a command's input
pub mod Input
-- this crate's own values as contracts see them
pub mod Views
