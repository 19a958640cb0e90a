pub mod AddLemmas
mod Adding
pub mod AmongLemmas
pub mod AppendLemmas
pub mod BecomeLemmas
mod BehindLemmas
pub mod FileLemmas
mod FitLemmas
pub mod HandLemmas
mod OrderLemmas
pub mod PartLemmas
pub mod QuietLemmas
mod Reading
pub mod SealLemmas
mod Sealing
pub mod SpansLemmas
mod SpellLemmas
pub mod StepLemmas
pub mod StoredLemmas
mod ValueLemmas
pub mod WrittenLemmas
