-- ---- What contracts of public functions cite, in reading order

-- the documents of a state
pub mod Documents
-- the parts of a report beside its numbers
pub mod Evidence
-- the numbers of faults, of their places, and of verdicts
pub mod Faults
-- the meaning of the proved verifiers, and the memory of tokens that they accepted
pub mod ProvedKept
-- the memory of a validator
pub mod Remembering
-- judging, and the report that an exported function writes
pub mod Reports
-- the payload that is kept of the last judging
pub mod Payloads
-- what a judging adds to the memory of a validator
pub mod Keeping
-- whether each way in which the token that was accepted last is bound was shown
pub mod Bound
-- the octets that are written for the caller, by the status
pub mod Written
-- access rules that are held, and what they say of the claims of the last acceptance
pub mod Access
-- what one call knows of the claims of the last acceptance
pub mod Expecting
-- the ownership of a handle
pub mod Handles
-- public documents, and the issuer that a token names
pub mod Issuers
-- issuing by a validator, in the numbers of the header
pub mod Issuing
-- a token judged by the proved verifiers
pub mod Proving
-- memories of tokens that count once, and what they answer of the token that was accepted last
pub mod Taking
-- how the token, or the proof, that was accepted last is held by a store of those that count once
pub mod Entries
-- proofs of possession
pub mod Possessing
-- nonces by time, and what is said of the one of the proof that was accepted last
pub mod Nonces
-- how the parts of a renewal cross to C
pub mod Renewals
-- how what is answered to a request crosses to C
pub mod Requests
-- how the parts of a URL, and what follows on an answer, cross to C
pub mod Urls
