-- What the private functions of a line with `::` compute. `PartWords` says what it means.
use Rattle.std.specs.Prelude.{ℕ, ℤ, Bool, ◌&&◌, List, map, filter, Option}
use Rattle.mk_names.specs.Names.{name_at, has_name}
use Rattle.mk_verdict.specs.declared.mark.Mark.{Mark}
use Rattle.mk_nodes.specs.declared.graph.Graph.{Graph}
use Rattle.mk_seen.specs.Marks.{hard_marked}
use Rattle.mk_seen.specs.Nodes.{made_of}
use Rattle.mk_plan.specs.Nodes.{was_cut}
use Rattle.mk_plan.specs.Tests.{is_newer_than}

-- the prerequisite with this mark is among these names, and newer than a target that was made then, or whose recipe was cut off
abbrev pub is_named_and_newer : Graph → (marks : List Bool) → (made : Option ℤ) → (cut : Bool) → (names : List (List ℕ)) → ℕ × Mark → Bool
is_named_and_newer graph marks made cut names p = has_name names (name_at graph.names p.0) && is_newer_than graph marks made cut p

-- than the target n
abbrev pub is_newer_among : Graph → (marks : List Bool) → (n : ℕ) → (names : List (List ℕ)) → ℕ × Mark → Bool
is_newer_among graph marks n names p = is_named_and_newer graph marks (made_of graph n) (was_cut graph n) names p

-- the words of `$?` among these names
abbrev pub newer_among : Graph → (marks : List Bool) → (n : ℕ) → (names : List (List ℕ)) → List (List ℕ)
newer_among graph marks n names =
    map (λ p. name_at graph.names p.0) (filter (is_newer_among graph marks n names) (hard_marked graph n))
