use Rattle.std.proofs.Common.{ℕ, List, refl, subst}
use Rattle.mk_macros.specs.Expansion.{ExpandsTo, gives}
use Rattle.mk_macros.specs.Ranks.{defined_by, rule_meanings}
use Rattle.mk_rule_lines.proofs.lines.words_of.Goals as goal

pub returns-then-is_fixed-clause-words : goal.returns-then-is_fixed-clause-words
returns-then-is_fixed-clause-words c =
    let names = rule_meanings (defined_by c.args.macros.now) in
    record {
      expansion = c.args.text;
      expands = subst (λ (t : List ℕ). ExpandsTo names t (gives t)) c.as_slice.ensures (c.if-is_fixed.ensures refl names);
      cut = c.new.ensures;
    }
