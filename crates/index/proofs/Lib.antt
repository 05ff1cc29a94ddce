pub mod Entries
pub mod Places
pub mod Sizes
pub mod Walk
pub mod Search
pub mod IndexTrip
pub mod Exactly
pub mod LookupCalls
pub mod PresentValues
pub mod PlacedBlocks
mod Examples
