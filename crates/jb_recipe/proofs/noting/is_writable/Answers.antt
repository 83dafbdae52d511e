use Rattle.std.proofs.Common.{sym, ◌∙◌}
use Rattle.jb_recipe.proofs.NotingLemmas.{within_if_ok, ok_if_within}
use Rattle.jb_recipe.proofs.noting.is_writable.Goals as goal

pub returns : goal.returns
returns c = (
  (λ yes. record {
    within = within_if_ok c.args.form c.args.note.now c.check_in.result c.check_in.ensures (sym c.is_ok.ensures.value ∙ yes);
    status = c.requires.status;
    explicit = c.requires.explicit;
  }),
  (λ good. c.is_ok.ensures.value ∙ ok_if_within c.args.form c.args.note.now c.check_in.result c.check_in.ensures good.within),
)
