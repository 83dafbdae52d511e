mod TakingLemmas
mod TrustingLemmas
