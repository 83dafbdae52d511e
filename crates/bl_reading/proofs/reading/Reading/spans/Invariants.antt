use Rattle.std.proofs.Common.{◌≡◌, vec_len}
use Rattle.bl_reading.proofs.reading.Reading.spans.Given as goal

-- a span for each recipe so far
abbrev pub invariant-loop-recipe : goal.invariant-loop-recipe
invariant-loop-recipe l = vec_len l.spans ≡ l.recipe-index
