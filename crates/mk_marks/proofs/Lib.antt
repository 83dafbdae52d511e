pub mod SaidLemmas
