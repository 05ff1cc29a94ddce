-- What the contracts of this crate, and of those above it, cite.
pub mod Calls
pub mod Inner
