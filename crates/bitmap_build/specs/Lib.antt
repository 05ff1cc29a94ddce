-- What the contracts of this crate, and of those above it, cite.
pub mod Build
pub mod Joining
pub mod Sorting
