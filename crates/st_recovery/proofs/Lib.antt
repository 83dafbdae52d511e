pub mod RecoversLemmas
pub mod StoredLemmas
pub mod AnewLemmas
pub mod MemoryLemmas
pub mod OpeningLemmas
