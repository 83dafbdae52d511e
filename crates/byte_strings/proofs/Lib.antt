pub mod DigitLemmas
pub mod PieceLemmas
pub mod TextLemmas
pub mod WordLemmas
