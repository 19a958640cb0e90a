mod WalkLemmas
mod LayoutLemmas
mod JudgeLemmas
mod StepLemmas
mod ReaderLemmas
mod WithinLemmas
mod WrittenLemmas
mod Rows
