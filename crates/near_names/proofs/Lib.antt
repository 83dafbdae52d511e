pub mod NearLemmas
