pub mod BlockMerge
pub mod SetCalls
pub mod Iso80000
mod Examples
