-- ---- What contracts of public functions cite, in reading order

-- key types, their curves, members and sizes
pub mod Kinds
-- a key as contracts see it, and what it answers to
pub mod Keys
-- the reasons to skip an entry of a key set
pub mod SkipTable
-- the thumbprint of a key, by SHA-256
pub mod Thumbprints
-- the key in an entry of a key set
pub mod Entries
-- the octets of a key as contracts see them
pub mod Materials
-- the numbers of the elements with a property
pub mod Numbers
-- a key and an index as contracts see them
pub mod Views
-- the key set that octets spell
pub mod KeySets
-- the names of faults and of reasons
pub mod FaultNames
-- ---- What laws alone cite

-- laws over the definitions
pub mod Laws
-- ---- What contracts of private functions alone cite, which nobody has to believe

-- the result of reading an entry of a key set, where memory suffices
pub mod Answers
