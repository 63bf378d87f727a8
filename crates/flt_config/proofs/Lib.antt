pub mod RangesLemmas
pub mod DistinctLemmas
pub mod InRange
pub mod WithinRange
pub mod CheckLaws
pub mod FieldLaws
pub mod InitialFits
