mod ArgumentLemmas
mod CutLemmas
mod DefineLemmas
pub mod LineLemmas
pub mod MachineLemmas
mod SpellingLemmas
