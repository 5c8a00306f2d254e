-- ---- For admitting.rt
pub mod Steps
-- ---- For asking.rt
pub mod Asked
-- ---- For expecting.rt
pub mod Expectations
-- ---- For issuers.rt
pub mod Choices
-- ---- For judging.rt
pub mod Verdicts
-- ---- For laws.rt
pub mod OneRequest
pub mod OneAnswer
pub mod OneIssuer
pub mod HandedOut
-- ---- For rule.rt
pub mod Denied
-- ---- For shown.rt
pub mod OneValue
-- ---- For unshown.rt
pub mod Bound
-- ---- For several files
pub mod Tests
-- ---- For other lemmas
pub mod Below
pub mod OneEntry
pub mod Remembered
