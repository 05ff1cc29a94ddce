pub mod PackedLaws
pub mod Marking
pub mod Scanning
pub mod PackedCalls
