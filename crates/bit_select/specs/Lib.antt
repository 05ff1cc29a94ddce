-- What the contracts of this crate, and of those above it, cite.
pub mod BitSelects
pub mod Inner
