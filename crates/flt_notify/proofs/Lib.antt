pub mod RowsLemmas
pub mod ValueLemmas
pub mod TouchedLemmas
pub mod WatchLemmas
