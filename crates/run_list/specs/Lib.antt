-- What the contracts of this crate, and of those above it, cite.
pub mod Runs
pub mod Rising
pub mod Rows
pub mod Search
pub mod Places
pub mod Meaning
pub mod Blocks
pub mod Calls
