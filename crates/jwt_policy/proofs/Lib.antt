-- ---- For algorithm.rt
pub mod ServedLemmas
-- ---- For checks.rt
pub mod RowsLemmas
-- ---- For document.rt
pub mod NamesLemmas
-- ---- For laws.rt
pub mod ClaimsLemmas
pub mod EligibleLemmas
pub mod PayloadLemmas
-- ---- For media.rt
pub mod MediaLemmas
-- ---- For member_kinds.rt
pub mod AllSome
-- ---- For policy.rt
pub mod CeilingLemmas
-- ---- For crates above too
pub mod BarNames
-- ---- For several files
pub mod ItemsLemmas
-- ---- For other lemmas
pub mod TestLemmas
