pub mod AlwaysLemmas
pub mod DriveLemmas
pub mod FaultLemmas
pub mod ListingLemmas
pub mod OnePlanLemmas
pub mod PassingLemmas
pub mod PlanLemmas
