pub mod FoundLemmas
pub mod LineLemmas
pub mod MentionLemmas
pub mod ToldLemmas
pub mod WordLemmas
pub mod WrittenLemmas
