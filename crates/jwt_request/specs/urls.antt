-- ---- What contracts of public functions cite, in reading order

-- a URL from which something is fetched, by its parts
pub mod Urls
-- what is written for the caller
pub mod Written
-- where a redirection leads
pub mod References
-- where the metadata of an issuer stand
pub mod Metadata
-- what follows on an answer
pub mod Answers
-- ---- What laws alone cite

-- what a location gives, in the words of RFC 3986
pub mod Laws
