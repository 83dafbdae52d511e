pub mod OneProofLemmas
pub mod StateLemmas
pub mod KeepableLemmas
pub mod KeptLemmas
pub mod RankLemmas
pub mod ListedLemmas
pub mod EndsLemmas
