-- Numbers that are looked for by their marks.
use Rattle.std.specs.Prelude.{◌≡◌, ℕ, Bool, List}
use Rattle.mk_graph.specs.Edges.{has}
use Rattle.mk_rules.specs.NodeNotes.{is_marked}

-- a number is marked where it is in the list
abbrev pub AreMarksOf : (marks : List Bool) (list : List ℕ) → Type 0
AreMarksOf marks list = (n : ℕ) → is_marked marks n ≡ has list n
