-- ---- What contracts of public functions cite, in reading order

-- moments, in whole seconds since 1970-01-01T00:00:00Z
pub mod Moments
-- the crate's own types as contracts see them
pub mod Seen
