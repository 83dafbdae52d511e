use Rattle.std.proofs.Common.{◌∙◌, ◌++◌, ap, sym}
use Rattle.std.proofs.lemmas.Result.{on_ok_weaker}
use Rattle.mk_names.specs.Names.{all_added}
use Rattle.mk_names.proofs.NameLemmas.{all_added-append}
use Rattle.st_records.specs.Parts.{names_known}
use Rattle.st_answers.specs.Graph.{hidden_where, listed, source_where}
use Rattle.st_answers.proofs.drawing.mention_of.Goals as goal

pub returns : goal.returns
returns c =
    let names = c.args.names.now in
    let entry = c.args.entry.now in
    let source = listed (source_where c.args.extent.source entry) in
    let explicit = names_known entry.explicit in
    let hidden = hidden_where c.args.extent.hidden entry in
    on_ok_weaker c.mention_all-2.result
    (λ last. last
    ∙ ap (λ l. all_added l c.hidden_where.result) (c.in_ok-mention_all.ensures ∙ ap (all_added c.mention_one.new.names) c.names.ensures)
    ∙ ap (λ l. all_added (all_added c.mention_one.new.names explicit) l) c.hidden_where.ensures
    ∙ ap (λ l. all_added (all_added l explicit) hidden) (c.in_ok-mention_one.ensures ∙ ap (λ o. all_added names (listed o)) c.source_where.ensures)
    ∙ sym (all_added-append (all_added names source) explicit hidden)
    ∙ sym (all_added-append names source (explicit ++ hidden)))
    c.mention_all-2.ensures
