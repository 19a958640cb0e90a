mod DecodeLemmas
mod LimitLemmas
mod OperationLemmas
mod PrintLemmas
mod Rows
mod WordLemmas
