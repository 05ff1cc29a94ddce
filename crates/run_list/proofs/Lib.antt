pub mod Judging
pub mod Validity
pub mod Boundaries
pub mod Space
pub mod BlockWords
pub mod WordsInPlace
pub mod RoundTrip
pub mod BlockCalls
pub mod BlockTrips
pub mod Places
pub mod Searching
pub mod Batches
pub mod Lookups
pub mod RowCalls
pub mod PlaceLaws
pub mod PlaceCalls
mod Examples
