use Rattle.std.proofs.Common.{[], ◌++◌, sym, subst}
use Rattle.std.specs.List.{flat_map, IsDistinct}
use Rattle.std.specs.Str.{bytes_eq}
use Rattle.mk_names.proofs.NameLemmas.{distinct_none, distinct_all_added}
use Rattle.mk_graph.proofs.numbering.distinct_names.Goals as goal

pub returns : goal.returns
returns c = λ of goals names numbering. subst (IsDistinct bytes_eq) (sym numbering.order) (distinct_all_added [] (goals ++ flat_map of names) distinct_none)
