mod ComeLemmas
mod LawLemmas
mod LineLemmas
mod NameLemmas
mod PartLemmas
