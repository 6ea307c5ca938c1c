mod PlaceLemmas
mod TremoloLemmas
