-- the meanings of the tests' verifiers
pub mod Verifiers
