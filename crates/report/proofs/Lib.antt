pub mod LineLaws
pub mod LineCalls
pub mod AllLines
pub mod PrintRead
pub mod GrammarWrite
pub mod GrammarRead
pub mod Grammar
pub mod PrintLaws
pub mod ProgramLaws
mod Examples
