pub mod ChangedLemmas
pub mod KeyLemmas
pub mod NumberLemmas
pub mod PartedLemmas
pub mod SortedLemmas
pub mod SpacedLemmas
pub mod TextLemmas
pub mod WordLemmas
