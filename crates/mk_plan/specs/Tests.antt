-- What the private functions compute, by one test after the other. `Nodes` says what it means.
use Rattle.std.specs.Prelude.{ℕ, ℤ, Bool, ◌||◌, List, map, filter, Option, is_none}
use Rattle.std.specs.List.{list_any}
use Rattle.mk_graph.specs.Edges.{row}
use Rattle.mk_names.specs.Names.{name_at}
use Rattle.mk_verdict.specs.Tests.{is_later, mark_differs}
use Rattle.mk_verdict.specs.declared.mark.Mark.{Mark}
use Rattle.mk_nodes.specs.declared.graph.Graph.{Graph}
use Rattle.mk_seen.specs.Marks.{look_of, mark_counted, hard_marked}
use Rattle.mk_seen.specs.Nodes.{stamp_of, made_of, is_marked}
use Rattle.mk_plan.specs.Nodes.{was_cut}

-- the prerequisite m with this mark is newer than a target that was made then, or whose recipe was cut off
abbrev pub is_newer_than : Graph → (marks : List Bool) → (made : Option ℤ) → (cut : Bool) → ℕ × Mark → Bool
is_newer_than graph marks made cut (m, mark) =
    is_none made || (cut || (is_later (stamp_of graph m) made || (is_marked marks m || mark_differs (mark_counted (look_of graph m) mark) (look_of graph m))))

-- than the target n
abbrev pub is_newer_word : Graph → (marks : List Bool) → (n : ℕ) → ℕ × Mark → Bool
is_newer_word graph marks n p = is_newer_than graph marks (made_of graph n) (was_cut graph n) p

-- the words of `$?`: of the source and the prerequisites by name
abbrev pub newer_words : Graph → (marks : List Bool) → (n : ℕ) → List (List ℕ)
newer_words graph marks n = map (λ p. name_at graph.names p.0) (filter (is_newer_word graph marks n) (hard_marked graph n))

-- a node without a recipe was remade
abbrev pub ends_remade : Graph → (marks : List Bool) → (n : ℕ) → Bool
ends_remade graph marks n = is_none (stamp_of graph n) || list_any (is_marked marks) (row graph.hard n)
