-- ---- For constants.rt
pub mod CurveConstants
-- ---- For euclid.rt
pub mod Reductions
-- ---- For field.rt
pub mod Forms
-- ---- For formulas.rt
pub mod Made
-- ---- For jws.rt
pub mod Counted
-- ---- For laws.rt
pub mod Tables256
pub mod Tables384
pub mod Tables521
-- ---- For p521_prime.rt
pub mod NineLimbs
-- ---- For prepared.rt
pub mod Lent
-- ---- For sums.rt
pub mod Rules
-- ---- For several files
pub mod Rows
pub mod Congruence
pub mod FieldValues
pub mod MultipleSteps
pub mod Doublings
pub mod WindowSteps
pub mod SignatureVerdicts
pub mod OctetVerdicts
-- ---- For other lemmas
pub mod Search
pub mod Inverses
pub mod Units
pub mod Slopes
pub mod Chord
pub mod Tangent
pub mod Thirds
pub mod Chains
pub mod Inverses256
pub mod Inverses384
pub mod Inverses521
