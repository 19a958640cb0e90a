pub mod EntryLemmas
mod LawLemmas
pub mod ProgressLemmas
mod RecordLemmas
