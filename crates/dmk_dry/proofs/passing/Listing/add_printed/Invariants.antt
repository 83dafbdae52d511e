use Rattle.std.proofs.Common.{◌≡◌, ◌++◌, drop, length}
use Rattle.dmk_dry.specs.AlwaysRun.{always_behind}
use Rattle.dmk_dry.specs.Listing.{printed}
use Rattle.dmk_dry.proofs.passing.Listing.add_printed.Given as goal

abbrev pub invariant-loop-line : goal.invariant-loop-line
invariant-loop-line l = record {
  text : l.self.text.items ++ printed (drop l.line-index l.lines) ≡ l.fn.self.text.items ++ printed l.lines;
  always : l.self.always.items ++ always_behind l.target (length l.self.text.items) (drop l.line-index l.lines)
      ≡ l.fn.self.always.items ++ always_behind l.target (length l.fn.self.text.items) l.lines;
  any : l.self.lists_any ≡ l.fn.self.lists_any;
}
