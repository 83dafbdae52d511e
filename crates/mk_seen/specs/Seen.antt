-- The prerequisites of a node as they are judged.
use Rattle.std.specs.Prelude.{ℕ, ℤ, Bool, true, false, List, [], ◌++◌, map, Option, Some, None}
use Rattle.mk_names.specs.Names.{name_at}
use Rattle.mk_nodes.specs.declared.graph.Graph.{Graph}
use Rattle.mk_verdict.specs.declared.mark.Look.{Look}
use Rattle.mk_verdict.specs.declared.mark.Look.TheVariants.{NoFile}
use Rattle.mk_verdict.specs.declared.mark.Mark.{Mark}
use Rattle.mk_verdict.specs.declared.verdict.Prerequisite.{Prerequisite}
use Rattle.mk_seen.specs.Marks.{look_of, mark_counted, hard_marked, hidden_marked}
use Rattle.mk_seen.specs.Nodes.{stamp_of, is_marked}

-- a prerequisite, with its name as a list of bytes
pub record Seen : Type 0 where
  pub name : List ℕ
  pub stamp : Option ℤ
  pub is_hidden : Bool
  pub has_rule : Bool
  pub is_remade : Bool
  pub look : Look
  pub mark : Mark

abbrev pub shown : Prerequisite → Seen
shown p = record { name = p.name.now; stamp = p.stamp; is_hidden = p.is_hidden; has_rule = p.has_rule; is_remade = p.is_remade; look = p.look; mark = p.mark }

-- a prerequisite of the graph, with its mark, where that counts. One that is a node is there, by a file or by a rule; one that is gone has neither
abbrev pub seen_at : Graph → (marks : List Bool) → (is_hidden : Bool) → Option ℕ → Mark → Seen
seen_at graph marks is_hidden (Some m) mark = record {
  name = name_at graph.names m;
  stamp = stamp_of graph m;
  is_hidden = is_hidden;
  has_rule = true;
  is_remade = is_marked marks m;
  look = look_of graph m;
  mark = mark_counted (look_of graph m) mark;
}
seen_at graph marks is_hidden None mark =
    record { name = []; stamp = None; is_hidden = is_hidden; has_rule = false; is_remade = false; look = NoFile; mark = mark }

abbrev pub seen_hard : Graph → (marks : List Bool) → ℕ × Mark → Seen
seen_hard graph marks (m, mark) = seen_at graph marks false (Some m) mark

abbrev pub seen_hidden : Graph → (marks : List Bool) → Option ℕ × Mark → Seen
seen_hidden graph marks (hidden, mark) = seen_at graph marks true hidden mark

-- the prerequisites of node n, numbered from 0: the hard ones, then the hidden ones
abbrev pub seen_of : Graph → (marks : List Bool) → (n : ℕ) → List Seen
seen_of graph marks n = map (seen_hard graph marks) (hard_marked graph n) ++ map (seen_hidden graph marks) (hidden_marked graph n)
