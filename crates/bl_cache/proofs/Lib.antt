pub mod EntryLemmas
pub mod PartLemmas
pub mod PlacedLemmas
pub mod RecordLemmas
pub mod SearchLemmas
pub mod TableLemmas
