-- What `$^`, `$+` and `$?` stand for in the part of a node's recipe that one line has: in a line with `::` they speak of its own
-- prerequisites (GNU make), in any other of the node's.
use Rattle.std.specs.Prelude.{ℕ, if◌then◌else◌, List, filter}
use Rattle.mk_names.specs.Names.{name_at, has_name}
use Rattle.mk_rule_lines.specs.Explicit.{names_in}
use Rattle.mk_rule_lines.specs.declared.rule_line.RuleLine.{RuleLine}
use Rattle.mk_nodes.specs.Prerequisites.{distinct}
use Rattle.mk_nodes.specs.declared.graph.Graph.{Graph}
use Rattle.mk_verdict.specs.declared.mark.Mark.{Mark}
use Rattle.mk_seen.specs.Marks.{hard_marked}
use Rattle.mk_plan.specs.ExplicitWords.{once_of}
use Rattle.mk_plan.specs.Parts.{language_of, is_part}
use Rattle.mk_plan.specs.Words.{written_of}

-- the hard prerequisites of node n that are among these names, each with its mark, in the order of the node's
abbrev pub hard_among : Graph → (n : ℕ) → (names : List (List ℕ)) → List (ℕ × Mark)
hard_among graph n names = filter (λ p. has_name names (name_at graph.names p.0)) (hard_marked graph n)

-- the prerequisites of which the line speaks: each once, as they are written, and by number with their marks
abbrev pub once_in : Graph → (n : ℕ) → RuleLine → List (List ℕ)
once_in graph n l = if is_part (language_of graph) l then distinct (names_in l) else once_of graph n

abbrev pub written_in : Graph → (n : ℕ) → RuleLine → List (List ℕ)
written_in graph n l = if is_part (language_of graph) l then names_in l else written_of graph n

abbrev pub hard_in : Graph → (n : ℕ) → RuleLine → List (ℕ × Mark)
hard_in graph n l = if is_part (language_of graph) l then hard_among graph n (distinct (names_in l)) else hard_marked graph n
