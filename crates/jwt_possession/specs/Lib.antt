-- ---- What contracts of public functions cite, in reading order

-- the policies for proofs
pub mod ProofPolicies
-- the public key that stands in a token's own header
pub mod HeaderKey
-- how an access token is bound
pub mod Bindings
-- each way in which an access token is bound is shown by its sender, and none is unknown
pub mod Shown
-- one form of each URI that begins with `http://` or `https://` and has a host, without query and fragment
pub mod Uris
-- paths of which every reader makes the same
pub mod Paths
-- what belongs to this request, and the steps of a proof's claims that need it
pub mod Requests
-- a proof of possession, and why a token is none
pub mod Proofs
-- what a proof that was accepted says, and its times
pub mod Possessions
-- the names of algorithms as one text, and how it is written
pub mod AlgNames
-- nonces by time, of which nothing is kept
pub mod Nonces
-- the names of faults
pub mod FaultNames
-- tokens that count once
pub mod once
-- ---- What laws alone cite

-- that no octets are a proof and have a fault, and that a proof is new once
pub mod Laws
-- laws of normal forms, and the examples of RFC 3986
pub mod UriLaws
