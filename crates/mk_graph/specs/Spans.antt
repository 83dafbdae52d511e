-- Rows that lie in one list of numbers, each between two places. Own.
use Rattle.std.specs.Prelude.{ℕ, ◌≤◌, List, map, slice_range}
use Rattle.std.specs.List.{All}
use Rattle.mk_graph.specs.declared.shared_rows.Span.{Span}

-- the numbers that lie there
abbrev pub spanned : (numbers : List ℕ) → Span → List ℕ
spanned numbers span = slice_range numbers span.start span.end

-- the rows that lie there
abbrev pub rows_at : (numbers : List ℕ) (spans : List Span) → List (List ℕ)
rows_at numbers spans = map (spanned numbers) spans

-- a row begins where it ends or before, and ends within as many numbers
abbrev pub IsWithin : (size : ℕ) → Span → Type 0
IsWithin size span = (span.start ≤ span.end) × (span.end ≤ size)

-- so does each row
abbrev pub AreWithin : (size : ℕ) (spans : List Span) → Type 0
AreWithin size spans = All (IsWithin size) spans
