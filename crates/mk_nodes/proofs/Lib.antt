pub mod FreshLemmas
pub mod MarkLemmas
pub mod OneGraphLemmas
pub mod OneNumberingLemmas
