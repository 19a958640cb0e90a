pub mod IndexLemmas
mod MeterLemmas
mod Rows
