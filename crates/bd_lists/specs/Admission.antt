-- Which records a node may submit. Own.
use Rattle.std.specs.Prelude.{◌≡◌, ℕ, List, Option, Some, None}
use Rattle.mk_recipe.specs.Line.{Records}
use Rattle.mk_recipe.specs.declared.line_status.Outcome.{Outcome}
use Rattle.mk_recipe.specs.declared.line_status.Outcome.TheVariants as outcome
use Rattle.st_records.specs.declared.record.Record.{Record}
use Rattle.st_records.specs.declared.record.Record.TheVariants as records
use Rattle.bd_lists.specs.declared.board.clearance.Spent.{Spent}
use Rattle.bd_lists.specs.declared.recipe.Recipe.{Recipe}
use Rattle.bd_ledger.specs.declared.sent.Sent.{Sent}
use Rattle.bd_ledger.specs.declared.sent.Sent.TheVariants as sent

-- a recipe that was run, with the ticket of its 'begun'
pub record Run : Type 0 where
  pub ticket : ℕ
  pub recipe : Recipe
  pub outcome : Outcome

-- what a board sees of a recipe that was run
abbrev pub run_of : {T : Type 0} (ticket_of : T → ℕ) → Option (Spent T) → Option Run
run_of ticket_of None = None
run_of ticket_of (Some spent) = Some (record { ticket = ticket_of spent.told; recipe = spent.recipe; outcome = spent.outcome })

-- the run is that of the node's 'begun'
abbrev pub IsOwn : Sent → Option Run → Type 0
IsOwn past None = ⊥
IsOwn past (Some run) = past ≡ sent.Begun run.ticket

-- the run came to its end, and these are the commands that the state keeps of it
abbrev pub IsOf : List (List ℕ) → Option Run → Type 0
IsOf commands None = ⊥
IsOf commands (Some run) = (run.outcome ≡ outcome.Done) × Records run.recipe.lines.items commands

-- a node that has submitted so much may submit a record with this run: a 'begun' once, and with none; an end with the run of its
-- 'begun'; 'done' where that came to its end and its commands are those that were run; what was kept never
abbrev pub MaySend : Sent → Record → Option Run → Type 0
MaySend past (records.Begun target) run = (past ≡ sent.Nothing) × (run ≡ None)
MaySend past (records.Done target commands hidden explicit) run = IsOwn past run × IsOf commands run
MaySend past (records.Failed target status) run = IsOwn past run
MaySend past (records.Kept target entry) run = ⊥
