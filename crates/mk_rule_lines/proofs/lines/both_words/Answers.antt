use Rattle.std.proofs.Common.{ℕ, List, refl, subst}
use Rattle.mk_macros.specs.Expansion.{ExpandsTo, gives}
use Rattle.mk_macros.specs.Ranks.{defined_by, rule_meanings}
use Rattle.mk_rule_lines.proofs.lines.both_words.Goals as goal

pub returns-then-is_plain-2-clause-targets : goal.returns-then-is_plain-2-clause-targets
returns-then-is_plain-2-clause-targets c =
    let names = rule_meanings (defined_by c.args.macros.now) in
    record {
      expansion = c.args.targets;
      expands = subst (λ (t : List ℕ). ExpandsTo names t (gives t)) c.as_slice.ensures (c.if-is_plain.ensures.expands refl names);
      cut = c.plain.ensures;
    }

pub returns-then-is_plain-2-clause-prerequisites : goal.returns-then-is_plain-2-clause-prerequisites
returns-then-is_plain-2-clause-prerequisites c =
    let names = rule_meanings (defined_by c.args.macros.now) in
    record {
      expansion = c.args.prerequisites;
      expands = subst (λ (t : List ℕ). ExpandsTo names t (gives t)) c.as_slice-then-is_plain.ensures (c.if-is_plain-2.ensures.expands refl names);
      cut = c.plain-then-is_plain-2.ensures;
    }
