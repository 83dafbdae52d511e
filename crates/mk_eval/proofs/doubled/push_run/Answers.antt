use Rattle.std.proofs.Common.{◌≡◌, ◌++◌, sym, ap, ◌∙◌, append_assoc}
use Rattle.mk_eval.specs.Static.{doubled}
use Rattle.mk_eval.proofs.DoubledLemmas.{doubled_run}
use Rattle.mk_eval.proofs.doubled.push_run.Goals as goal

pub returns-clause-whole : goal.returns-clause-whole
returns-clause-whole c =
    let text = c.args.text.now in
    let old = c.args.out.now.items in
    let run : c.split_at.result.0.now ++ doubled c.split_at.result.1.now ≡ doubled text =
    rw (c.split_at.ensures.front, c.split_at.ensures.back, c.plain_len.ensures.value) (sym (doubled_run text)) in
    ap (λ xs. xs ++ doubled c.split_at.result.1.now) c.in_ok-extend_from_slice.ensures.items
    ∙ append_assoc old c.split_at.result.0.now (doubled c.split_at.result.1.now)
    ∙ ap (λ xs. old ++ xs) run
