pub mod FitLemmas
pub mod MemberLemmas
pub mod OrderLemmas
pub mod PatternLemmas
