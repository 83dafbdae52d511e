use Rattle.std.proofs.Common.{◌+◌, unwrap_or, ap, ◌∙◌}
use Rattle.std.proofs.lemmas.List.{length_push}
use Rattle.bd_places.specs.Settling.{end_of}
use Rattle.bd_places.specs.declared.end.End.TheVariants.{Abandoned}
use Rattle.jb_closing.proofs.ListLemmas.{at_push}
use Rattle.jb_runner.proofs.pool.ends_of.Goals as goal

pub loop-number-preserved : goal.loop-number-preserved
loop-number-preserved c =
    let ends = c.loop-number.ends.items in
    let number = c.loop-number.number in
    let so_far = c.loop-number.invariant in
    record {
      each = rw c.in_ok-push.ensures.items (length_push ends c.unwrap_or.result ∙ ap (λ n. n + 1) so_far.each);
      end = rw c.in_ok-push.ensures.items
          (at_push (λ n. unwrap_or (end_of c.args.board.now.standing n) Abandoned) ends c.unwrap_or.result number so_far.each (cc) so_far.end);
    }
