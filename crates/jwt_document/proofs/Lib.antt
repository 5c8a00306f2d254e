-- ---- For closed.rt
pub mod ElementLemmas
pub mod NamesLemmas
-- ---- For given.rt
pub mod SecretLemmas
pub mod SomeLemmas
-- ---- For entries.rt
pub mod Each
-- ---- For pem.rt
pub mod PemLemmas
pub mod SetLemmas
-- ---- For values.rt
pub mod TextsLemmas
