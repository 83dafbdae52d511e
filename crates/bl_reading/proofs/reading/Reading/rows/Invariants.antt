use Rattle.std.proofs.Common.{◌≡◌, length}
use Rattle.bl_reading.proofs.reading.Reading.rows.Given as goal

-- a row for each recipe so far
abbrev pub invariant-loop-recipe : goal.invariant-loop-recipe
invariant-loop-recipe l = length l.rows ≡ l.recipe-index
