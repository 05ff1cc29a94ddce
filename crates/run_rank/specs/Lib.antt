-- What the contracts of this crate, and of those above it, cite.
pub mod RunRanks
pub mod Meaning
pub mod Inner
