-- ---- What contracts of public functions cite, in reading order

-- a service that asks nothing beside its issuer's policy
pub mod Plain
-- what the program itself has to ask by
pub mod Asking
-- the token that a request shows
pub mod Shown
-- the issuer by whose policy and keys a token is judged
pub mod Issuers
-- the verdict on the token that a request shows
pub mod Judged
-- the access rule of a call
pub mod Rule
-- what a call expects of claims
pub mod Expecting
-- the URI of a request beside a proof
pub mod Paths
-- the proof of possession beside a token
pub mod Proving
-- how a token is bound, and whether that is shown
pub mod Unshown
-- what a request takes
pub mod Taking
-- the requests that are let through, and why others aren't
pub mod Admission
-- a memory of accepted tokens beside a service
pub mod Recalled
-- what is answered of a request of which all else holds, by what a memory or a store answered
pub mod Settled
-- what is answered to a request, in the terms of `jwt_request`
pub mod Reply
-- ---- What laws alone cite

-- that no request has two answers, and that nothing is handed out of a token that wasn't taken
pub mod Laws
