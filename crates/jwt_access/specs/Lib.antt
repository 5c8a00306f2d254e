-- ---- What contracts of public functions cite, in reading order

-- access rules
pub mod Rules
-- the moment at which a rule is held against dates
pub mod Moments
-- scopes, and the claims that carry them
pub mod Scopes
-- the claim of a name
pub mod Pointers
-- the claims that meet a rule, in words
pub mod Granted
-- the scope or the demand that is the first that claims don't meet, in words
pub mod DenialWords
-- the members of a rule's document by kind and range
pub mod MemberKinds
-- the rule that a document says, or the first cause to refuse it
pub mod Document
-- the names of faults and of denials
pub mod FaultNames
-- tests of claims that have to have a value that is allowed
pub mod Claims
-- the table of rows of why claims don't meet a rule
pub mod Denials
-- what one call knows of the claims
pub mod expected
-- ---- What laws alone cite

-- the documents that say a rule, in words
pub mod RuleTexts
-- ---- What contracts of private functions alone cite, which nobody has to believe

-- the parts of a rule as contracts see them
pub mod Views
