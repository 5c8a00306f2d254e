-- ---- For alg_names.rt
pub mod Names
-- ---- For binding.rt
pub mod Ways
-- ---- For laws.rt
pub mod NoFault
pub mod OwnKeys
pub mod OneFault
pub mod InTime
pub mod NormalForms
pub mod NormalPaths
pub mod AllShown
-- ---- For nonces.rt
pub mod Encoded
-- ---- For once.rt
pub mod Runs
pub mod Shares
pub mod Moments
pub mod Pairs
pub mod Going
pub mod Taking
pub mod Queue
pub mod Numbers
pub mod OncePlaces
-- ---- For policy.rt
pub mod Policies
-- ---- For proof.rt
pub mod Requests
pub mod OwnTerms
pub mod OneKey
-- ---- For uri.rt
pub mod Places
pub mod Decoding
-- ---- For several files
pub mod Segments
pub mod OneToken
-- ---- For other lemmas
pub mod Settled
pub mod Lacking
pub mod Paths
pub mod Authorities
