mod ApplyLemmas
pub mod Finding
pub mod FlushLemmas
mod FlushRows
mod FlushedLemmas
mod FrameLemmas
mod FreshLemmas
mod FrontLemmas
mod InsertedLemmas
pub mod LogLemmas
mod MemoryLemmas
mod MoveLemmas
mod MutatedRows
mod NoBytes
pub mod OneLemmas
mod QuietLemmas
mod ReachLemmas
mod RecordLemmas
mod RemainLemmas
mod RestoreLemmas
mod RichRows
mod Rows
mod SeenLemmas
mod SettledLemmas
mod SettledRows
mod SyncedLemmas
