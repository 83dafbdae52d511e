pub mod NameLemmas
pub mod ChainLemmas
pub mod LinkLemmas
pub mod EndsLemmas
pub mod TextLemmas
