pub mod ByTimesLemmas
pub mod FirstLemmas
pub mod MadeOfLemmas
pub mod MarkLemmas
pub mod ReasonLemmas
pub mod VerdictLemmas
