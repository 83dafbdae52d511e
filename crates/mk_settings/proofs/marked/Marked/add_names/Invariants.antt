use Rattle.std.proofs.Common.{◌≡◌}
use Rattle.mk_names.specs.Names.{all_added}
use Rattle.mk_settings.proofs.marked.Marked.add_names.Given as goal

abbrev pub invariant-loop-word : goal.invariant-loop-word
invariant-loop-word l =
    (l.self.all ≡ l.fn.self.all) × (all_added l.self.names l.word-iterator ≡ all_added l.fn.self.names l.line.prerequisites)
    × (l.self.patterns ≡ l.fn.self.patterns)
