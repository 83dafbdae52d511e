use Rattle.std.proofs.Common.{◌≡◌, ◌≤◌, false, take, IfOk}
use Rattle.st_disk.specs.Moments.{now}
use Rattle.dmk_parts.specs.Behind.{none_tried}
use Rattle.dmk_run.specs.InTurn.{MakesPart, MakesWithLost, LeavesDisk, MadeInTurn}
use Rattle.dmk_run.proofs.in_turn.made_in_turn.Given as goal

-- the parts so far are made in turn
abbrev pub invariant-loop-targets : goal.invariant-loop-targets
invariant-loop-targets g l = record {
  status : IfOk l.found (λ s. s ≤ 2);
  in_turn : IfOk l.found (MadeInTurn (MakesWithLost (MakesPart (λ source world. g.M.Includes.Includes.allows source world) (λ tree looks. g.M.Tree.Tree.allows tree looks) l.options
      l.means.environment.now g.D.Disk.honest (λ d. g.D.Disk.seen d) (λ d. now (g.D.Disk.moments d))) l.options.goes_on) l.options.goes_on
      (take l.targets-index l.parts) (l.initial.disk, none_tried) (l.disk, l.tried));
  untouched : LeavesDisk (λ source world. g.M.Includes.Includes.allows source world) (λ tree looks. g.M.Tree.Tree.allows tree looks) l.options
      l.means.environment.now l.initial.disk l.disk;
  let_go : g.M.Banks.Banks.serves l.initial.banks ≡ false → g.M.Banks.Banks.serves l.banks ≡ false;
}
