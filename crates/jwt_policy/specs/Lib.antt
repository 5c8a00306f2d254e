-- ---- What contracts of public functions cite, in reading order

-- the values of a policy's members
pub mod Settings
-- texts, lists of texts, and media types
pub mod Texts
-- the bars of a signature, under a policy and the verifiers that were handed in
pub mod Bars
-- the eligible pairs of a signature and a key
pub mod Eligible
-- the kinds of the registered claims, and the claims of a payload
pub mod ClaimKinds
-- the claim `aud`
pub mod Audiences
-- the claims under a policy, at a moment
pub mod Checks
-- the members of a policy document by kind and range
pub mod MemberKinds
-- the policy that a document says, or the first cause to refuse it
pub mod Document
-- the ceiling on tries of whoever opens documents once and judges many tokens by them
pub mod Ceilings
-- what a service asks where the policy of an issuer doesn't say it
pub mod InService
-- the names of faults
pub mod FaultNames
-- the laws of the tables, in words
pub mod Laws
-- ---- What contracts of private functions alone cite, which nobody has to believe

-- the ranges of a policy's numbers, and that it allows an algorithm
pub mod Ranges
