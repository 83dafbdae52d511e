pub mod ModeLemmas
