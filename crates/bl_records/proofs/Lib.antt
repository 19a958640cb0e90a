pub mod AnswerLemmas
mod FoundLemmas
pub mod HeldLemmas
mod LawLemmas
pub mod TimeLemmas
pub mod WritingLemmas
