pub mod Ranges
pub mod Validity
pub mod Check
pub mod Durable
pub mod Laws
pub mod FieldLaws
pub mod RangeExamples
pub mod Plain
