use Rattle.std.proofs.Common.{◌∙◌, List, ℕ, [], sym, ap}
use Rattle.mk_names.specs.Names.{all_added}
use Rattle.mk_names.proofs.NameLemmas.{all_added-append}
use Rattle.mk_rule_lines.specs.Explicit.{explicit_of}
use Rattle.mk_sources.proofs.seen.required_names.Goals as goal

pub returns : goal.returns
returns c = λ name is.
    let made = c.args.made.now in
    let order_only = c.args.order_only.now in
    let explicit = c.in_ok-explicit.ensures name is in
    let start = c.in_ok-mention_all.ensures ∙ ap (λ (ns : List (List ℕ)). all_added ns made) c.new-names.ensures in
    let more = c.in_ok-mention_all-2.ensures ∙ ap (λ (ns : List (List ℕ)). all_added ns c.in_ok-explicit.explicit) start
    ∙ ap (all_added (all_added [] made)) explicit ∙ sym (all_added-append [] made (explicit_of c.args.rules.now.lines.now name)) in
    c.in_ok-new.ensures.ok ∙ c.into_list.ensures ∙ c.in_ok-mention_all-3.ensures ∙ ap (λ (ns : List (List ℕ)). all_added ns order_only) more
