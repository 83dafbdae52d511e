use Rattle.std.proofs.Common.{◌∙◌, sym, ap, subst}
use Rattle.std.specs.Prelude.{bytes_eq}
use Rattle.std.specs.List.{IsDistinct}
use Rattle.mk_recipe.specs.Report.{has}
use Rattle.mk_recipe.proofs.HiddenLemmas.{hidden-each, hidden-once}
use Rattle.mk_recipe.proofs.laws.hidden_as_mentioned.Goals as goal

pub returns-clause-each : goal.returns-clause-each
returns-clause-each c = λ profile report target known names name h. ap (has name) h.names_are ∙ hidden-each profile report target known name

pub returns-clause-once : goal.returns-clause-once
returns-clause-once c = λ profile report target known names h. subst (IsDistinct bytes_eq) (sym h.names_are) (hidden-once profile report target known)
