pub mod Digits
pub mod Counts
pub mod Entries
pub mod Directories
