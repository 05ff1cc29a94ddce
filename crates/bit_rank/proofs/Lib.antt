pub mod BitLaws
pub mod BitCalls
