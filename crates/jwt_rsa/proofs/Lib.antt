-- ---- For pkcs1.rt
pub mod Frames
-- ---- For powers.rt
pub mod Written
pub mod Sizes
pub mod Digits
pub mod ModularPowers
pub mod Shifts
pub mod Rows
pub mod Leading
pub mod Forms
-- ---- For pss.rt
pub mod Masks
-- ---- For several files
pub mod Keys
pub mod Salts
