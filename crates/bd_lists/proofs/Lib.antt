pub mod InTurnLemmas
pub mod KeptLemmas
pub mod OnceLemmas
pub mod RunLemmas
