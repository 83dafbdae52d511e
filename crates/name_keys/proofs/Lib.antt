mod EndsLemmas
mod SameLemmas
