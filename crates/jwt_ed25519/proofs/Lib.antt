-- ---- For decoding.rt
pub mod Roots
-- ---- For field.rt
pub mod Residues
-- ---- For scalar.rt
pub mod Weights
-- ---- For verifying.rt
pub mod Verdicts
-- ---- For several files
pub mod MultipleSteps
pub mod Digits
pub mod Powers
