-- ---- What contracts of public functions cite, in reading order

-- how the value of the header Authorization carries a token
pub mod Spelled
-- what is answered to a request, and when
pub mod Replies
-- the text of a challenge
pub mod Challenges
-- when keys by URL are fetched, and until when they are used
pub mod renewal
-- from which URLs keys are fetched
pub mod urls
-- ---- What laws alone cite

-- that each 401 has a challenge, and each value of `Authorization` one meaning
pub mod Laws
