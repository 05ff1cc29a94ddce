-- What the contracts of this crate, and of those above it, cite; Meaning is for laws.
pub mod Select
pub mod Meaning
