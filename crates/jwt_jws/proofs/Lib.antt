-- ---- For compact.rt
pub mod Periods
pub mod Texts
-- ---- For crit.rt
pub mod CritLemmas
pub mod Shapes
-- ---- For laws.rt
pub mod CauseLaws
pub mod CompactLaws
pub mod FaultLaws
pub mod MessageLengths
pub mod SignedLaws
-- ---- For signed.rt
pub mod SignaturesLeft
-- ---- For several files
pub mod Each
