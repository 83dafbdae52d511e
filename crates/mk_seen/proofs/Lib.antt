pub mod NameLemmas
pub mod MarkLemmas
pub mod TextLemmas
