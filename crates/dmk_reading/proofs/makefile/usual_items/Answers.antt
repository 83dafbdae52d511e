use Rattle.std.proofs.Common.{ℕ, List, [], Option, ap, ◌∙◌}
use Rattle.mk_macros.specs.Ranks.{defined_by}
use Rattle.dmk_reading.specs.Faults.{IsOwnFault}
use Rattle.dmk_reading.proofs.MakefileLemmas.{read_items, read_refused, handed_on}
use Rattle.mk_eval.specs.Output.{World}
use Rattle.mk_nodes.specs.declared.file_look.FileLook.{FileLook}
use Rattle.dmk_reading.proofs.makefile.usual_items.Goals as goal

pub returns-in-Ok-clause-items : goal.returns-in-Ok-clause-items
returns-in-Ok-clause-items g c = λ world looks text now.
    read_items world looks (defined_by c.args.macros.now) _ _ _ _ c.as_slice-file.ensures (c.as_slice.ensures.value ∙ ap (λ v. v.items) c.deref.ensures)
    (c.in_ok-makefile.ensures.makefile world looks (c.read_makefile.ensures.grows world text) now) _ (c.in-Ok.ensures.items world text)

pub returns-clause-fault : goal.returns-clause-fault
returns-clause-fault g c = λ world looks text now.
    read_refused world looks (defined_by c.args.macros.now) _ _ _ _ c.as_slice-file.ensures (c.as_slice.ensures.value ∙ ap (λ v. v.items) c.deref.ensures)
    (c.in_ok-makefile.ensures.makefile world looks (c.read_makefile.ensures.grows world text) now) c.in-Err.fault (c.in-Err.ensures.items world text)

pub returns-in_err-makefile-clause-fault : goal.returns-in_err-makefile-clause-fault
returns-in_err-makefile-clause-fault g c =
    handed_on _ (λ f. (world : World) (looks : List ℕ → Option FileLook) → g.I.Includes.allows c.usual_makefile.new.includes world → g.T.Tree.allows c.usual_makefile.new.tree looks
    → IsOwnFault world looks (g.T.Tree.refuses c.usual_makefile.new.tree) [] (defined_by c.args.macros.now) f)
    c.in_err-makefile.field-0.0 (c.from_residual.ensures).1
    (λ world looks text now. c.in_err-makefile.ensures.fault world looks (defined_by c.args.macros.now) text now)
