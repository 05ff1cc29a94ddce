pub mod NamedValues
pub mod FilterLaws
pub mod StepLaws
pub mod FilterRun
pub mod FilterCalls
pub mod MissingLaws
mod Examples
