mod DigitLemmas
mod NameLemmas
mod Rows
