use Rattle.jb_recipe.proofs.HiddenLemmas.{one_list}
use Rattle.jb_recipe.proofs.hidden.hidden_by.Goals as goal

pub returns : goal.returns
returns c =
    one_list c.args.target.now c.args.known.now c.args.reported.now c.args.named.now c.in_ok-names.names c.empty-found.result c.add.new.names
    c.add-2.new.names c.add.new.found c.add-2.new.found c.in_ok-names.ensures c.empty-found.ensures c.in_ok-add.ensures c.in_ok-add-2.ensures
