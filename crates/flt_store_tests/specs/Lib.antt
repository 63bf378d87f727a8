pub mod Room
pub mod CommitExamples
