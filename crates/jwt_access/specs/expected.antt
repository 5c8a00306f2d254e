-- ---- What contracts of public functions cite, in reading order

-- what a call expects of claims
pub mod Expected
-- the first expectation that claims don't meet
pub mod Unmet
-- ---- What contracts of private functions alone cite, which nobody has to believe

-- the steps on the way to a claim
pub mod Views
