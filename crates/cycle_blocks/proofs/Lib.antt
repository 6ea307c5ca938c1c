mod FindLemmas
mod LayLemmas
mod SendLemmas
