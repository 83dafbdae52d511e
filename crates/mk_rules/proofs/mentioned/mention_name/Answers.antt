use Rattle.mk_rules.proofs.RowLemmas.{row_more, named_more, known_added}
use Rattle.mk_rules.proofs.mentioned.mention_name.Goals as goal

pub returns-clause-row : goal.returns-clause-row
returns-clause-row c = λ start row.
    let is = c.in_ok-number.ensures in
    row_more c.args.names.now c.args.numbers.now c.numbered.new.names c.mention.new.self c.args.name.now c.in_ok-number.number is.0 is.1 is.2 c.in_ok-_is_new.ensures.ok start row

pub returns-clause-named : goal.returns-clause-named
returns-clause-named c = λ some.
    let is = c.in_ok-number.ensures in
    named_more c.args.names.now c.args.numbers.now c.numbered.new.names c.mention.new.self c.args.name.now c.in_ok-number.number is.0 is.1 is.2 c.in_ok-_is_new.ensures.ok some.0 some.1

pub returns-clause-known : goal.returns-clause-known
returns-clause-known c = λ is_node marks known.
    known_added is_node c.args.names.now c.numbered.new.names c.args.name.now marks c.in_ok-number.ensures.0 known
