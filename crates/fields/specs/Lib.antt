-- What the contracts of this crate, and of those above it, cite; Sums and Words are for laws.
pub mod Refusal
pub mod Bytes
pub mod Sums
pub mod Answers
pub mod Limits
pub mod Reading
pub mod Counting
pub mod Directory
pub mod Words
