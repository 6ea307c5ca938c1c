mod OnlyLemmas
mod BlockLemmas
