-- What a recipe left that was run with its lines said. Own.
use Rattle.std.specs.Prelude.{◌≡◌, [], Result}
use Rattle.mk_recipe.specs.declared.line.Line.{Line}
use Rattle.bd_lists.specs.declared.exec.Ended.{Ended}
use Rattle.bd_lists.specs.declared.exec.ExecFault.{ExecFault}
use Rattle.bd_lists.specs.declared.recipe.Recipe.{Recipe}
use Rattle.bd_lists.specs.Running.{RanTo}
use Rattle.bd_flusher.specs.declared.site.receipt.Receipt.{Receipt}
use Rattle.jb_recipe.specs.declared.recipe_run.Ran.{Ran}

-- the recipe was run under the clearance of this receipt: each answer is one that the Exec gave
pub record RanUnder (answers : Line → Result Ended ExecFault → Type 0) (told : Receipt) (recipe : Recipe) (ran : Ran) : Type 0 where
  pub own : ran.spent.told ≡ told
  pub whole : ran.spent.recipe ≡ recipe
  pub answered : RanTo answers recipe.ignore recipe.lines.items [] ran.ended.items ran.spent.outcome
