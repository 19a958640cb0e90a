mod BatchGrammar
mod BatchReading
mod FirstOfStripe
pub mod ItemLemmas
mod KeptLemmas
pub mod KeyLemmas
pub mod LaterLemmas
mod LatestLemmas
pub mod ListLemmas
pub mod OrderLemmas
mod Parts
mod RecordLemmas
mod RevisionLemmas
mod Rows
mod WrittenLemmas
