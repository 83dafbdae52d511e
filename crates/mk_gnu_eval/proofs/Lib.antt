mod LawLemmas
mod ReadingLemmas
mod TextLemmas
