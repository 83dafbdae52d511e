use Rattle.std.proofs.Common.{◌∙◌, List, ℕ, sym, ap}
use Rattle.mk_names.specs.Names.{all_added}
use Rattle.mk_names.proofs.NameLemmas.{all_added-append}
use Rattle.mk_rule_lines.specs.Explicit.{explicit_of}
use Rattle.mk_rules.specs.Row.{named}
use Rattle.mk_sources.specs.Seen.{made_in}
use Rattle.mk_rules.proofs.finder.mention_hard.Goals as goal

pub mention_explicit-requires : goal.mention_explicit-requires
mention_explicit-requires c = (c.requires.0, c.in_ok-mention_made.ensures.row c.requires.0 c.requires.1)

pub returns-clause-row : goal.returns-clause-row
returns-clause-row c = λ start row. c.in_ok-mention_explicit.ensures.row start (c.in_ok-mention_made.ensures.row start row)

pub returns-clause-known : goal.returns-clause-known
returns-clause-known c = λ is_node known.
    c.in_ok-mention_explicit.ensures.known is_node c.args.notes.now.marks.items (c.in_ok-mention_made.ensures.known is_node c.args.notes.now.marks.items known)

pub returns-clause-named : goal.returns-clause-named
returns-clause-named c = λ name is.
    let explicit = explicit_of c.args.rules.now.lines.now name in
    c.in_ok-mention_explicit.ensures.named name is ∙ ap (λ (ns : List (List ℕ)). all_added ns explicit) c.in_ok-mention_made.ensures.named
    ∙ sym (all_added-append (named c.args.names.now c.args.notes.now.row) (made_in c.args.seen.now.ruled.given) explicit)
