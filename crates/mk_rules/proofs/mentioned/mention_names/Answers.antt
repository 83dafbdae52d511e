use Rattle.std.proofs.Common.{sym, ap, ◌∙◌}
use Rattle.mk_names.specs.Names.{all_added}
use Rattle.mk_rules.specs.Row.{named, IsSomeRow}
use Rattle.mk_rules.proofs.mentioned.mention_names.Goals as goal

pub loop-name-preserved : goal.loop-name-preserved
loop-name-preserved c =
    let some : IsSomeRow c.loop-name.names c.loop-name.numbers = (c.requires.0, c.loop-name.invariant.row c.requires.0 c.requires.1) in
    let left = c.next.new.self in
    record {
      row = λ start row. c.in_ok-mention_name.ensures.row start (c.loop-name.invariant.row start row);
      known = λ is_node marks known. c.in_ok-mention_name.ensures.known is_node marks (c.loop-name.invariant.known is_node marks known);
      names =
          ap (λ l. all_added l left) (c.in_ok-mention_name.ensures.named some)
          ∙ ap (all_added (named c.loop-name.names c.loop-name.numbers)) (sym c.in-Some.ensures.steps) ∙ c.loop-name.invariant.names;
    }
