use Rattle.std.proofs.Common.{◌≡◌, ◌+◌, ◌*◌, true, false, take, List, ◌∷◌, ◌++◌, ℕ, Option, None}
use Rattle.std.specs.List.{list_all}
use Rattle.mk_nodes.specs.Chain.{can_be, usable, first_that}
use Rattle.mk_sources.specs.Looks.{Looks}
use Rattle.mk_sources.specs.There.{is_there}
use Rattle.mk_nodes.specs.declared.file_look.FileLook.{FileLook}
use Rattle.mk_sources.proofs.chain.+chain.Given as goal

abbrev pub decreases-can_be : goal.decreases-can_be
decreases-can_be g l = 3 * l.steps

abbrev pub decreases-all_can_be : goal.decreases-all_can_be
decreases-all_can_be g l = 3 * l.steps + 1

abbrev pub decreases-first_that : goal.decreases-first_that
decreases-first_that g l = 3 * l.steps + 2

abbrev pub invariant-all_can_be-loop-name : goal.invariant-all_can_be-loop-name
invariant-all_can_be-loop-name g l = record {
  front : (before : List (List ℕ)) × (l.names ≡ before ++ l.name-iterator)
      × ((looks : List ℕ → Option FileLook) → g.T.Tree.allows l.tree looks
      → list_all (can_be (is_there l.makers.targets.now looks) l.makers.forms.now l.steps l.taken) before ≡ true);
  looks : Looks (g.T.Tree.allows l.fn.tree) (g.T.Tree.allows l.tree) (g.T.Tree.refuses l.fn.tree) (g.T.Tree.refuses l.tree) (g.T.Tree.asked l.fn.tree) (g.T.Tree.asked l.tree) (g.T.Tree.firsts l.fn.tree) (g.T.Tree.firsts l.tree);
}

abbrev pub invariant-first_that-loop-number : goal.invariant-first_that-loop-number
invariant-first_that-loop-number g l = record {
  none : (looks : List ℕ → Option FileLook) → g.T.Tree.allows l.tree looks
      → first_that (λ rule. can_be (is_there l.makers.targets.now looks) l.makers.forms.now l.steps (rule ∷ l.taken)) (usable false l.taken (take l.number l.makers.forms.now)) l.name ≡ None;
  looks : Looks (g.T.Tree.allows l.fn.tree) (g.T.Tree.allows l.tree) (g.T.Tree.refuses l.fn.tree) (g.T.Tree.refuses l.tree) (g.T.Tree.asked l.fn.tree) (g.T.Tree.asked l.tree) (g.T.Tree.firsts l.fn.tree) (g.T.Tree.firsts l.tree);
}
