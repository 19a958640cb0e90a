pub mod Basics
pub mod ChainLemmas
pub mod CrcLemmas
pub mod ReadingLemmas
mod Rows
pub mod TakeLemmas
pub mod VarintLemmas
