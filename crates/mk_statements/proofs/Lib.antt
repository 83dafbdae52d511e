mod CutLemmas
mod LogicalLemmas
mod ReadingLemmas
