use Rattle.std.proofs.Common.{◌≡◌, ◌++◌, ℕ, List, drop}
use Rattle.std.specs.Prelude.{map as list_map}
use Rattle.std.specs.List.{flat_map}
use Rattle.st_marks.specs.declared.mark.Mark.{Mark}
use Rattle.st_answers.specs.Stale.{stale_row}
use Rattle.st_answers.proofs.stale.stale_targets.Given as goal

abbrev pub invariant-loop-place : goal.invariant-loop-place
invariant-loop-place l =
    (look : List ℕ → Mark) → l.looks ≡ list_map look (list_map (λ e. e.0) l.named)
    → l.text.items ++ flat_map (stale_row look) (drop l.place l.named) ≡ flat_map (stale_row look) l.named
