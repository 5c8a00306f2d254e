-- ---- For general.rt
mod Steps
-- ---- For laws.rt
mod FlattenedForm
mod GeneralForm
mod HeaderTexts
mod Spelled
mod SpentLaw
-- ---- For options.rt
pub mod Lists
-- ---- For several files
mod Fit
mod Lengths
-- ---- For other lemmas
mod Characters
