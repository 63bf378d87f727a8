pub mod KindExamples
pub mod VerdictExamples
