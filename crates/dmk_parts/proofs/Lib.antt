pub mod BehindLemmas
mod PartLemmas
mod PlanningLemmas
