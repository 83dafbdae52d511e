pub mod AuthLemmas
