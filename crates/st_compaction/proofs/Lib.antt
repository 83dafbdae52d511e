pub mod ClearingLemmas
pub mod CompactedLemmas
pub mod NamedLemmas
