mod EditLemmas
mod HeldLemmas
mod LawLemmas
mod ProgressLemmas
