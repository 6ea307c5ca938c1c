mod RestLemmas
mod AlikeLemmas
mod UntoldLemmas
