-- What the contracts of this crate, and of those above it, cite.
pub mod Lines
pub mod Grammar
pub mod Report
pub mod Inner
