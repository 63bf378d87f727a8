pub mod StandardLemmas
pub mod ListLemmas
pub mod RecordLemmas
pub mod AskedLemmas
pub mod SessionLemmas
pub mod DtcLemmas
pub mod UnitLemmas
