pub mod Words
pub mod Blocks
pub mod SelectLaws
pub mod SelectCalls
