pub mod SyncsLemmas
