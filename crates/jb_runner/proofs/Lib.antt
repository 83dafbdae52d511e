pub mod BoardLemmas
pub mod RunningLemmas
