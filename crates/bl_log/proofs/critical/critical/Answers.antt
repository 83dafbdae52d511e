use Rattle.std.proofs.Common.{sym}
use Rattle.bl_log.proofs.CriticalLemmas.{greatest_of_all}
use Rattle.bl_log.proofs.critical.critical.Goals as goal

pub returns-in_ok-path_to-in-Some : goal.returns-in_ok-path_to-in-Some
returns-in_ok-path_to-in-Some c = record {
  is_path = c.in_ok-path_to-in-Some.ensures.path;
  sum = sym c.in_ok-path_to-in-Some.ensures.sum;
  greatest = greatest_of_all c.args.spans.now c.args.prerequisites.now c.args.sums.now c.requires c.in-Some.last c.in-Some.ensures.greatest;
}
