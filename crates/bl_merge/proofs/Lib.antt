pub mod HandLemmas
pub mod MergedLemmas
pub mod OrderLemmas
mod Rows
pub mod RunLemmas
pub mod SeenLemmas
