mod DefinitionLemmas
mod LineLemmas
mod NameLemmas
mod ReadingLemmas
mod SignLemmas
mod StepLemmas
