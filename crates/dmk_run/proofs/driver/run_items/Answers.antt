use Rattle.std.proofs.Common.{refl, sym, subst, ◌∙◌, ℕ, List, Option, IfOk}
use Rattle.std.specs.Prelude.{unwrap_or}
use Rattle.st_memory.specs.MemDisk.{memory_bytes, memory_moments}
use Rattle.st_disk.specs.Moments.{now}
use Rattle.mk_rule_lines.proofs.ResultLemmas.{if_ok}
use Rattle.dmk_reading.specs.Keeping.{keeps, kept_form}
use Rattle.dmk_reading.proofs.AllowedLemmas.{each_ok}
use Rattle.dmk_parts.specs.Behind.{none_tried}
use Rattle.dmk_run.specs.Made.{MakesItems}
use Rattle.dmk_parts.specs.Tried.{tried_in}
use Rattle.dmk_run.proofs.DriverLemmas.{found_without_state, same_as_before}
use Rattle.mk_nodes.specs.declared.file_look.FileLook.{FileLook}
use Rattle.dmk_run.proofs.driver.run_items.Goals as goal

pub returns-then-keeps_state-clause-makes : goal.returns-then-keeps_state-clause-makes
returns-then-keeps_state-clause-makes g c =
    let environment = c.args.means.now.environment.now in
    let items = c.args.items.items in
    let is = rw c.deref.ensures.value at c.keeps_state.ensures in
    subst (λ k. IfOk c.run_over.result.0 (λ s. (looks : List ℕ → Option FileLook) → g.M.Tree.Tree.allows c.run_over.new.tree looks →
    MakesItems c.args.goals.profile c.args.goals.definitions.items environment c.args.goals.targets c.args.wishes.now.makes_all c.args.wishes.now.goes_on (unwrap_or c.args.goals.behind none_tried)
    looks items k k g.D.Disk.honest (g.D.Disk.seen c.args.disk) s (now (g.D.Disk.moments c.run_over.result.1)) (tried_in c.run_over.result.2)))
    (sym c.if-keeps_state.true ∙ is) c.run_over.ensures.makes

pub returns-clause-makes : goal.returns-clause-makes
returns-clause-makes g c =
    let environment = c.args.means.now.environment.now in
    let items = c.args.items.items in
    let seen = g.D.Disk.seen c.args.disk in
    let sides = now (g.D.Disk.moments c.args.disk) in
    let is = rw c.deref.ensures.value at c.keeps_state.ensures in
    each_ok c.run_over-found.result.0 (g.M.Tree.Tree.allows c.run_over-found.new.tree)
    (λ looks s. MakesItems c.args.goals.profile c.args.goals.definitions.items environment c.args.goals.targets c.args.wishes.now.makes_all c.args.wishes.now.goes_on (unwrap_or c.args.goals.behind none_tried)
    looks items (keeps environment items) (keeps environment items) g.D.Disk.honest seen s sides (tried_in c.run_over-found.result.2))
    (λ looks may.
    found_without_state c.args.goals.profile c.args.goals.definitions.items environment c.args.goals.targets c.args.wishes.now.makes_all c.args.wishes.now.goes_on
    (unwrap_or c.args.goals.behind none_tried) looks (tried_in c.run_over-found.result.2) items (Unit {0}) (memory_bytes c.new-memory.result) tt c.new-memory.ensures.a c.new-memory.ensures.b (now (memory_moments c.run_over-found.result.1)) g.D.Disk.honest seen sides
    (keeps environment items) (sym c.if-keeps_state.false ∙ is) c.run_over-found.result.0
    (if_ok c.run_over-found.result.0 _ _ (λ s made. made looks may) c.run_over-found.ensures.makes))

pub returns-clause-parted : goal.returns-clause-parted
returns-clause-parted g c = same_as_before (kept_form c.args.goals.profile) g.D.Disk.honest (λ d. g.D.Disk.seen d) c.args.disk c.args.disk c.run_over-found.result.0 refl
