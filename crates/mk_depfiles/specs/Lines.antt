-- The lines of a depfile (GNU make manual, "Splitting Long Lines"): a newline behind an odd number of backslashes ends none.
use Rattle.std.specs.Prelude.{ℕ, ◌+◌, Bool, false, not, ◌&&◌, ◌==◌, List, [], ◌∷◌, count_by, if◌then◌else◌}
use Rattle.std.specs.List.{onto_first}

abbrev pub begins_with : ℕ → List ℕ → Bool
begins_with byte [] = false
begins_with byte (b ∷ bs) = b == byte

-- the text, in which a carriage return before a newline belongs to the newline (own: as on Windows)
abbrev pub without_returns : List ℕ → List ℕ
without_returns [] = []
without_returns (b ∷ bs) = if b == 13 && begins_with 10 bs then without_returns bs else b ∷ without_returns bs

-- a backslash that isn't quoted quotes what stands behind it
abbrev pub quotes_next : (quoted : Bool) → ℕ → Bool
quotes_next quoted b = b == 92 && not quoted

-- whether what stands behind these bytes is quoted: an odd number of backslashes stands at their end
abbrev pub quotes : (quoted : Bool) → List ℕ → Bool
quotes quoted [] = quoted
quotes quoted (b ∷ bs) = quotes (quotes_next quoted b) bs

-- how many bytes stand before the first newline that isn't quoted
abbrev pub line_len : (quoted : Bool) → List ℕ → ℕ
line_len quoted [] = 0
line_len quoted (b ∷ bs) = if b == 10 && not quoted then 0 else 1 + line_len (quotes_next quoted b) bs

-- what stands between these newlines
abbrev pub lines : (quoted : Bool) → List ℕ → List (List ℕ)
lines quoted [] = [] ∷ []
lines quoted (b ∷ bs) = if b == 10 && not quoted then [] ∷ lines false bs else onto_first b (lines (quotes_next quoted b) bs)

abbrev pub is_newline : ℕ → Bool
is_newline b = b == 10

abbrev pub newlines : List ℕ → ℕ
newlines text = count_by is_newline text
