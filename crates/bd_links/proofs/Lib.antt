pub mod FirstLemmas
pub mod LinkedLemmas
pub mod ListLemmas
pub mod RingLemmas
pub mod SpelledLemmas
