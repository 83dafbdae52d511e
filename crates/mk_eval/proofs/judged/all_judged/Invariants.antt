use Rattle.std.proofs.Common.{◌≡◌, ◌++◌, length}
use Rattle.std.specs.Vec.Iter.{into_iter_items, into_iter_len}
use Rattle.mk_profile.specs.Profile.{is_wide}
use Rattle.mk_eval.specs.Judged.{all_judged}
use Rattle.mk_eval.proofs.judged.all_judged.Given as goal

abbrev pub invariant-loop-statement : goal.invariant-loop-statement
invariant-loop-statement l = record {
  left : into_iter_len l.statement-iterator ≡ length (into_iter_items l.statement-iterator);
  gathered : l.taken.items ++ all_judged (is_wide l.profile) l.file (into_iter_items l.statement-iterator) ≡ all_judged (is_wide l.profile) l.file l.fn.statements.items;
}
