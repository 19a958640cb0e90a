mod EndLemmas
mod LogLemmas
