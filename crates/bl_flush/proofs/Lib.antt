mod FlushedLemmas
mod KeptBehind
mod KeptMore
mod Making
mod SealedLemmas
mod TakenLemmas
