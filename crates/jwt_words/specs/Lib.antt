-- ---- What contracts of public functions cite, in reading order

-- the options of the command `jwt`, and the command line that they make, over `clap`'s own definitions
pub mod Options
-- what the words of the command `jwt` ask for
pub mod Words
-- what each command reads, and how its answer is printed
pub mod Reading
-- the files that words name, and the documents of those that were read
pub mod InHand
-- the crate's own types as contracts see them
pub mod Seen
-- ---- What contracts of private functions alone cite, which nobody has to believe

-- the rows of the table of options as contracts see them
pub mod Rows
-- the commands of some examples of words
pub mod Examples
