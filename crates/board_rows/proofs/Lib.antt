pub mod DistinctLemmas
pub mod OnceLemmas
