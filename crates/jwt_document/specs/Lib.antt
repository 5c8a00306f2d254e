-- ---- What contracts of public functions cite, in reading order

-- the tables of members of a document
pub mod Rows
-- the members of the document of a service, object by object
pub mod Service
-- the tables of members, and the first fault of an object by them
pub mod Tables
-- the keys that stand in the document, and the URL of those that don't
pub mod Given
-- the issuers of a service
pub mod Entries
-- what the issuers of a service say together
pub mod Together
-- what members need of each other, and of secrets
pub mod Needs
-- the keys by which tokens are issued
pub mod Issuing
-- the rules of a service, by name
pub mod Rules
-- the document of a service, or the first cause to refuse it
pub mod Documents
-- the keys that stand in the document in PEM
pub mod Pem
-- what a document that was read says, object by object, with what holds where a member is absent
pub mod Said
-- a document as contracts see it
pub mod Meanings
-- ---- What contracts of private functions alone cite, which nobody has to believe

-- rows, tables, faults and answers as contracts see them
pub mod Views
