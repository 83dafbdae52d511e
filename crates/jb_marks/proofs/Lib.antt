pub mod EachLemmas
pub mod SameLemmas
pub mod MarkLemmas
pub mod DoneLemmas
pub mod FindLemmas
