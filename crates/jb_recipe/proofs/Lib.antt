pub mod HiddenLemmas
pub mod NotingLemmas
pub mod SilenceLemmas
pub mod SurviveLemmas
