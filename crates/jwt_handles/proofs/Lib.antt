-- ---- For expecting.rt
pub mod Standings
-- ---- For issuers.rt
pub mod Counting
-- ---- For possession_state.rt
pub mod Refusals
-- ---- For proving.rt
pub mod Adding
pub mod Payloads
pub mod Numbering
-- ---- For raw_box.rt
pub mod Values
-- ---- For several files
pub mod HandleForms
pub mod Handles
pub mod HandleWalks
