pub mod Merging
mod Taking
mod Writing
pub mod Walking
pub mod Calling
mod Examples
