mod JoinedLemmas
