-- ---- For mac.rt
pub mod CostLemmas
-- ---- For run.rt
pub mod Printing
-- ---- For service.rt
pub mod ServiceLemmas
-- ---- For verify_lines.rt
pub mod AnsweredLines
pub mod RunningLines
pub mod WalkedLines
-- ---- For several files
pub mod InputLemmas
pub mod LineLemmas
pub mod Refusing
pub mod Verifying
