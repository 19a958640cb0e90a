mod LawLemmas
mod OptionLemmas
mod ReadLemmas
mod Rows
