-- A site, whatever the type of its store. Own.
use Rattle.std.specs.Prelude.{◌+◌, ◌≤◌, vec_len, vec_capacity}
use Rattle.st_disk.specs.Moments.{Moments}
use Rattle.bd_flusher.specs.declared.site.over.SiteOver.{SiteOver}
use Rattle.bd_flusher.specs.Parts.{Parts}
use Rattle.bd_flusher.specs.Site.{FactsIn, facts_in, IsSiteIn}

-- as contracts see it
abbrev pub over_facts : {D S : Type 0} → (S → Parts D) → SiteOver S → FactsIn D
over_facts parts_of s = facts_in (parts_of s.store) s.opening s.records.told.items s.records.tickets.items s.records.held.items s.records.ends.items s.size

-- it is a site, and what is held has its room among the told records
abbrev pub IsOver : {D S : Type 0} (honest : Type 0) (moments : D → Moments) → (S → Parts D) → SiteOver S → Type 0
IsOver honest moments parts_of s = IsSiteIn honest moments (over_facts parts_of s) × (vec_len s.records.told + vec_len s.records.held ≤ vec_capacity s.records.told)
