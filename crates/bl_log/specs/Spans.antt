-- From when to when recipes ran (own).
use Rattle.std.specs.Prelude.{ℕ, ◌+◌, ◌-◌, ◌^◌, List, [], ◌∷◌, slice_index, map as list_map}
use Rattle.bl_log.specs.declared.span.Span.{Span}
use Rattle.bl_log.specs.declared.times.Ranked.{Ranked}

abbrev pub time : Span → ℕ
time span = span.end - span.begin

-- when the recipe of a number began
abbrev pub begin_of : List Span → ℕ → ℕ
begin_of spans n = slice_index (list_map (λ s. s.begin) spans) n

-- when it ended
abbrev pub end_of : List Span → ℕ → ℕ
end_of spans n = slice_index (list_map (λ s. s.end) spans) n

-- how long it took
abbrev pub time_of : List Span → ℕ → ℕ
time_of spans n = slice_index (list_map time spans) n

-- each with its number, in their order
abbrev pub ranked_from : ℕ → List Span → List Ranked
ranked_from n [] = []
ranked_from n (span ∷ spans) = record { number = n; time = time span } ∷ ranked_from (n + 1) spans

-- how far its time is below the greatest there can be: the longest has the least
abbrev pub shorter : Ranked → ℕ
shorter ranked = (2 ^ 64 - 1) - ranked.time
