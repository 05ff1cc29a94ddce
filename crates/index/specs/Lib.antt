-- What the contracts of this crate, and of those above it, cite.
pub mod Index
pub mod Exact
pub mod Search
pub mod Calls
pub mod Inner
