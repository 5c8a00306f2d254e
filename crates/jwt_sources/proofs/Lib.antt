-- ---- For source.rt
pub mod Ways
-- ---- For sources.rt
pub mod Lists
pub mod Each
-- ---- For sources.rt and laws.rt
pub mod Logs
pub mod Runs
-- ---- For laws.rt
pub mod Ranks
pub mod Requests
