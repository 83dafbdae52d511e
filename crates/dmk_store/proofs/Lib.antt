pub mod OpeningLemmas
