-- What the contracts of this crate, and of those above it, cite.
pub mod Merge
pub mod Values
pub mod Stores
pub mod Walk
pub mod Uniting
