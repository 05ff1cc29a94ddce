pub mod Placing
pub mod NeighbourCalls
pub mod NearestLaws
pub mod NearestCalls
