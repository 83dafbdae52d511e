pub mod CommandLemmas
pub mod FileLemmas
pub mod KnownLemmas
pub mod ListedLemmas
pub mod StampLemmas
