pub mod FaultLemmas
pub mod ManyLemmas
pub mod FieldLemmas
pub mod TextLemmas
mod DoneLemmas
mod PartLemmas
mod PlaceLemmas
mod ToldLemmas
