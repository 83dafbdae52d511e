pub mod LookLemmas
pub mod PlaceLemmas
pub mod SettleLemmas
pub mod StandingLemmas
pub mod StartLemmas
pub mod TallyLemmas
pub mod UserLemmas
