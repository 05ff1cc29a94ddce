pub mod RunLaws
pub mod DirectoryLaws
pub mod DirectoryCalls
pub mod RunCalls
pub mod BothCalls
