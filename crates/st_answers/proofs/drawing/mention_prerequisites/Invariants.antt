use Rattle.std.proofs.Common.{◌≡◌, drop}
use Rattle.std.specs.List.{flat_map}
use Rattle.mk_names.specs.Names.{all_added}
use Rattle.mk_names.proofs.NameLemmas.{Begins}
use Rattle.st_answers.specs.Graph.{prerequisites_of}
use Rattle.st_answers.proofs.drawing.mention_prerequisites.Given as goal

abbrev pub invariant-loop-number : goal.invariant-loop-number
invariant-loop-number l = record {
  begins : Begins l.fn.names l.names;
  rest : all_added l.names (flat_map (prerequisites_of l.state l.extent.hidden l.extent.source) (drop l.number l.fn.names))
      ≡ all_added l.fn.names (flat_map (prerequisites_of l.state l.extent.hidden l.extent.source) (drop l.fn.first l.fn.names));
}
