use Rattle.std.specs.Prelude.{option_map, unwrap_or, replicate}
use Rattle.std.proofs.Common.{◌∙◌, true, length, sym, ap}
use Rattle.std.proofs.lemmas.List.{length-replicate}
use Rattle.mk_seen.proofs.MarkLemmas.{length-hidden}
use Rattle.mk_seen.proofs.marks.hidden_by.Goals as goal

pub returns-in-Some : goal.returns-in-Some
returns-in-Some c = λ soft.
    sym (length-hidden c.args.node.now (option_map (λ s. s.now) c.marks.result) soft c.marks.ensures
    ∙ ap (λ o. length (unwrap_or (option_map (λ s. s.now) o) (replicate c.args.node.now.hidden true))) c.in-Some.is)

pub returns-in-None : goal.returns-in-None
returns-in-None c = λ soft.
    sym (length-hidden c.args.node.now (option_map (λ s. s.now) c.marks.result) soft c.marks.ensures
    ∙ ap (λ o. length (unwrap_or (option_map (λ s. s.now) o) (replicate c.args.node.now.hidden true))) c.in-None.is
    ∙ length-replicate c.args.node.now.hidden true)
