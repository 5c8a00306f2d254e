-- ---- What contracts of public functions cite, in reading order

-- where the keys of an issuer stand
pub mod Places
-- which refusal asks for newer keys, and under which name a token waits
pub mod Asking
-- how far a fetch is, and what one call does to it
pub mod Steps
-- what follows on an answer
pub mod Follows
-- what one call does to one source
pub mod Changes
-- which tickets were handed out, and which answers came by them
pub mod Tickets
-- which state stands for which tickets
pub mod Standing
-- what any calls come to, whatever is asked and told
pub mod Runs
