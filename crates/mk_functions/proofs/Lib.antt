mod FrontLemmas
mod ListLemmas
mod OutcomeLemmas
mod SomeOutcomeLemmas
mod SortLemmas
mod WaitingLemmas
