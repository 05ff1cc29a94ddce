pub mod Reading
pub mod Demand3
pub mod Table
pub mod Bounds
