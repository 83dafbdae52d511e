pub mod NameLemmas
pub mod ReferenceLemmas
