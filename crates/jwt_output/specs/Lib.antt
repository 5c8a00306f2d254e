-- ---- What contracts of public functions cite, in reading order

-- the member of a policy that is near to a name
pub mod Nearest
-- the output of a command, and its status
pub mod Printed
-- JSON objects that are printed, each on one line, as the kit's writer spells it
pub mod Json
-- the tokens of the objects that are printed, as they are written one by one
pub mod JsonTokens
-- the answers for a document that is refused, for a read that failed and for a file that can't be read
pub mod Refused
-- the output of `jwt jwk`
pub mod Jwk
-- the line of a tag
pub mod Mac
-- this crate's own values as contracts see them
pub mod Views
-- verdicts
pub mod verdicts
-- an answer as a list of fields
pub mod fields
