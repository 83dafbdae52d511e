-- A target of a graph as it is judged.
use Rattle.std.specs.Prelude.{◌≡◌, ℕ, Bool, not, List, map}
use Rattle.mk_recipe.specs.Line.{Records}
use Rattle.mk_recipe.specs.declared.line.Line.{Line}
use Rattle.mk_verdict.specs.declared.verdict.Target.{Target}
use Rattle.mk_nodes.specs.declared.graph.Graph.{Graph}
use Rattle.mk_seen.specs.Marks.{noted_of, files_of, compared_of}
use Rattle.mk_seen.specs.Nodes.{made_of}
use Rattle.mk_seen.specs.Seen.{shown, seen_of}

-- node n as a target with these lines as its recipe: with its files and prerequisites as they are seen, each with the mark that the state
-- has of it, if it has one. Hidden prerequisites count for what is remade unless soft edges were dropped
pub record IsTargetOf (graph : Graph) (marks : List Bool) (n : ℕ) (lines : List Line) (target : Target) : Type 0 where
  pub commands : Records lines target.commands.now
  pub explicit : target.explicit.now ≡ compared_of graph n
  pub stamp : target.stamp ≡ made_of graph n
  pub prerequisites : map shown target.prerequisites.now ≡ seen_of graph marks n
  pub ordered : target.orders_hidden ≡ not graph.soft_dropped
  pub source : target.source_changed ≡ (noted_of graph n).source_changed
  pub files : target.files.now ≡ files_of graph n
