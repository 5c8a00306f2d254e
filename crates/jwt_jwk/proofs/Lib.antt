-- ---- For der.rt
pub mod Numbers
pub mod Keys
-- ---- For text_blocks.rt
pub mod Blocks
pub mod Faults
-- ---- For writing.rt
pub mod ReadBack
-- ---- For several files
pub mod Refused
pub mod Files
-- ---- For other lemmas
pub mod SetReadBack
pub mod Steps
pub mod Elements
