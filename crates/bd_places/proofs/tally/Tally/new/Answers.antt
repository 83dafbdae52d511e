use Rattle.std.proofs.Common.{false, replicate, ap, ◌∙◌}
use Rattle.bd_places.proofs.StartLemmas.{tallied_first}
use Rattle.bd_places.proofs.tally.Tally.new.Goals as goal

pub returns-clause-tallied : goal.returns-clause-tallied
returns-clause-tallied c =
    tallied_first _ c.requires.nodes c.requires.once c.in_ok-users.ensures c.in_ok-hard_users.ensures c.in_ok-missing.ensures
    (c.in_ok-doomed.ensures ∙ ap (λ n. replicate n false) c.len.ensures)
