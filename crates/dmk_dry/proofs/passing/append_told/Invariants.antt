use Rattle.std.proofs.Common.{◌≡◌, ◌++◌}
use Rattle.dmk_dry.specs.Listing.{text_of}
use Rattle.dmk_dry.proofs.passing.append_told.Given as goal

abbrev pub invariant-loop-line : goal.invariant-loop-line
invariant-loop-line l = l.text.items ++ text_of l.line-iterator ≡ l.fn.text.items ++ text_of l.told
