use Rattle.std.proofs.Common.{◌≡◌, false, sym, ap, ◌∙◌}
use Rattle.mk_names.specs.Names.{all_added}
use Rattle.mk_rule_lines.specs.Explicit.{is_bar, is_wait}
use Rattle.mk_rules.specs.Row.{named, IsSomeRow}
use Rattle.mk_rules.proofs.ExplicitLemmas.{left_in, word_taken}
use Rattle.mk_rules.proofs.explicit.mention_line.Goals as goal

pub loop-word-preserved : goal.loop-word-preserved
loop-word-preserved c =
    let some : IsSomeRow c.loop-word.names c.loop-word.numbers = (c.requires.0, c.loop-word.invariant.row c.requires.0 c.requires.1) in
    let left = c.next.new.self in
    let profile = c.args.line.now.profile in
    let before = named c.loop-word.names c.loop-word.numbers in
    let no_bar : is_bar profile c.in-Some.word.now ≡ false = cc in
    let no_wait : is_wait c.in-Some.word.now ≡ false = cc in
    record {
      row = λ start row. c.in_ok-mention_name.ensures.row start (c.loop-word.invariant.row start row);
      known = λ is_node marks known. c.in_ok-mention_name.ensures.known is_node marks (c.loop-word.invariant.known is_node marks known);
      names =
          ap (λ l. all_added l (left_in profile left)) (c.in_ok-mention_name.ensures.named some)
          ∙ ap (all_added before) (sym (word_taken profile c.in-Some.word.now left no_bar no_wait))
          ∙ ap (λ l. all_added before (left_in profile l)) (sym c.in-Some.ensures.steps) ∙ c.loop-word.invariant.names;
    }
