use Rattle.std.proofs.Common.{◌∙◌, sym, arith}
use Rattle.mk_macros.proofs.WordLemmas.{last_slash-at_slash, last_slash-at_other}
use Rattle.mk_rule_lines.proofs.patterns.last_slash.Goals as goal
use Rattle.mk_rule_lines.proofs.patterns.last_slash.Goals.{then-byte-eq47, else-byte-eq47}

pub loop-i-preserved : goal.loop-i-preserved
loop-i-preserved c =
    elim c.if-byte-eq47.branch [
      | then-byte-eq47 w ↦ record {
        value = w.last-is ∙ sym (last_slash-at_slash c.args.name.now c.loop-i.i (omega arith) w.if-byte-eq47.true);
        within = rw w.last-is (omega arith);
      }
      | else-byte-eq47 w ↦ record {
        value = w.last-is ∙ c.loop-i.invariant.value ∙ sym (last_slash-at_other c.args.name.now c.loop-i.i (omega arith) w.if-byte-eq47.false);
        within = rw w.last-is c.loop-i.invariant.within;
      }
    ]
