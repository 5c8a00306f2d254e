-- ---- For challenge.rt
pub mod Pieces
-- ---- For credentials.rt
pub mod Places
-- ---- For renewal.rt
pub mod Few
pub mod Waiting
pub mod Due
pub mod Moments
-- ---- For urls.rt
pub mod Steps
pub mod Parts
pub mod Lawful
pub mod Choices
-- ---- For other lemmas
pub mod Origins
pub mod Fronts
pub mod Seams
