pub mod UnitExamples
pub mod WordExamples
pub mod CostExamples
