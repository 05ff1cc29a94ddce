mod Writing
mod Inserting
mod Placing
pub mod IndexTrips
mod Examples
