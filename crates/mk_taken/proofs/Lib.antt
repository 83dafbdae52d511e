pub mod LawLemmas
pub mod ListedLemmas
pub mod ReadingLemmas
