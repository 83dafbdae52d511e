use Rattle.st_disk.specs.Moments.{now}
use Rattle.dmk_run.proofs.InTurnLemmas.{part_leaves, part_makes}
use Rattle.dmk_run.proofs.in_turn.made_part.Goals as goal

-- what is so of the part's options is so of all
pub returns-clause-part : goal.returns-clause-part
returns-clause-part g c =
    let made = c.build_at_once-found in
    let told = c.add_behind-found in
    part_makes (λ source world. g.M.Includes.Includes.allows source world) (λ tree looks. g.M.Tree.Tree.allows tree looks) c.args.means.now.environment.now c.in-Ok.part.0 c.args.options.now
    c.in-Ok.ensures.makefiles c.in-Ok.ensures.profile c.in-Ok.ensures.definitions g.D.Disk.honest (λ d. g.D.Disk.seen d) (λ d. now (g.D.Disk.moments d))
    c.args.targets.now c.in-Ok.ensures.targets c.in-Ok.ensures.all c.in-Ok.ensures.goes_on c.in-Ok.part.1 made.new.includes made.new.tree c.args.disk made.result.1
    c.args.tried.now told.new.self made.result.2 made.result.0 told.result c.in-Ok.ensures.tried told.ensures.found told.ensures.adds made.ensures.makes

pub returns-clause-untouched : goal.returns-clause-untouched
returns-clause-untouched g c =
    part_leaves (λ source world. g.M.Includes.Includes.allows source world) (λ tree looks. g.M.Tree.Tree.allows tree looks) c.args.means.now.environment.now c.in-Ok.part.0 c.args.options.now
    c.in-Ok.ensures.makefiles c.in-Ok.ensures.profile c.in-Ok.ensures.definitions c.build_at_once-found.new.includes c.build_at_once-found.new.tree c.args.disk
    c.build_at_once-found.result.1 c.build_at_once-found.ensures.untouched
