-- ---- For fields.rt
pub mod Arrays
-- ---- For nearest.rt
pub mod NearLemmas
-- ---- For verdicts.rt
pub mod Passing
pub mod Expecting
-- ---- For several files
pub mod JsonLemmas
