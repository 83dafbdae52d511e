mod KnowingLemmas
