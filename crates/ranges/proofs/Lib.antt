pub mod RangeLaws
pub mod Agreement
mod Examples
