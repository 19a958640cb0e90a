pub mod WriteLemmas
pub mod HistoryLemmas
pub mod SyncedLemmas
pub mod LineLemmas
pub mod ToldLemmas
pub mod RowLemmas
mod Rows
