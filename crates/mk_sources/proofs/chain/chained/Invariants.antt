use Rattle.std.proofs.Common.{◌≡◌, take, List, [], ◌∷◌, ℕ, Option, None}
use Rattle.mk_nodes.specs.Chain.{can_be, usable, first_that}
use Rattle.mk_sources.specs.Looks.{Looks}
use Rattle.mk_sources.specs.There.{is_there}
use Rattle.mk_nodes.specs.declared.file_look.FileLook.{FileLook}
use Rattle.mk_sources.proofs.chain.chained.Given as goal

abbrev pub invariant-loop-number : goal.invariant-loop-number
invariant-loop-number g l = record {
  none : (looks : List ℕ → Option FileLook) → g.T.Tree.allows l.tree looks
      → first_that (λ rule. can_be (is_there l.makers.targets.now looks) l.makers.forms.now l.steps (rule ∷ [])) (usable l.any [] (take l.number l.makers.forms.now)) l.name ≡ None;
  looks : Looks (g.T.Tree.allows l.fn.tree) (g.T.Tree.allows l.tree) (g.T.Tree.refuses l.fn.tree) (g.T.Tree.refuses l.tree) (g.T.Tree.asked l.fn.tree) (g.T.Tree.asked l.tree) (g.T.Tree.firsts l.fn.tree) (g.T.Tree.firsts l.tree);
}
