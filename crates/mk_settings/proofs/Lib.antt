pub mod FitLemmas
pub mod GoalLemmas
pub mod MarkLemmas
pub mod OwnGoalLemmas
pub mod SettledLemmas
