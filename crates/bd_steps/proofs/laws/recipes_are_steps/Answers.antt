use Rattle.bd_steps.proofs.BoardLemmas.{recipes_are_steps, ends_are_steps, clearances_stay}
use Rattle.bd_steps.proofs.laws.recipes_are_steps.Goals as goal

pub returns : goal.returns
returns c = record { run = recipes_are_steps; ends = ends_are_steps; stay = clearances_stay }
