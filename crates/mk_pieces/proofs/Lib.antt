mod ArgumentLemmas
mod BracketLemmas
mod NameLemmas
mod TableLemmas
