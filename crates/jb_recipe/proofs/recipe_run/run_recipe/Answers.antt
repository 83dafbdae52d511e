use Rattle.jb_recipe.proofs.recipe_run.run_recipe.Goals as goal

-- the vector held nothing before
pub returns-clause-ran : goal.returns-clause-ran
returns-clause-ran g c = record {
  own = c.run-spent.ensures.told;
  whole = c.run-spent.ensures.recipe;
  answered = rw c.in-Ok.ensures.items at c.run-spent.ensures.ran;
}
