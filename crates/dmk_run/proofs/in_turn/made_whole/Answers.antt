use Rattle.std.proofs.Common.{◌∙◌, refl, sym, subst, IfOk}
use Rattle.mk_rule_lines.proofs.ResultLemmas.{if_ok}
use Rattle.st_disk.specs.Moments.{now}
use Rattle.mk_profile.specs.declared.profile.Profile.{Profile}
use Rattle.dmk_reading.specs.Keeping.{kept_form}
use Rattle.dmk_parts.specs.Behind.{none_tried}
use Rattle.dmk_run.specs.InTurn.{MakesPart}
use Rattle.dmk_parts.specs.Parts.{AreParts}
use Rattle.dmk_parts.specs.Tried.{AddsTried}
use Rattle.dmk_store.specs.Opened.{RecoversAsBefore}
use Rattle.dmk_run.proofs.InTurnLemmas.{alone, with_lost, in_parts_over, made_before, before_of, leaves_both, passed_on, part_leaves, part_makes}
use Rattle.dmk_run.proofs.in_turn.made_whole.Goals as goal

-- all goals are one part
pub returns-in-Ok-made_or_ends-clause-in_turn : goal.returns-in-Ok-made_or_ends-clause-in_turn
returns-in-Ok-made_or_ends-clause-in_turn g c =
    let made = c.build_at_once-found in
    let told = c.add_behind-found in
    let tried = told.new.self in
    let first : IfOk told.result (MakesPart (λ source world. g.M.Includes.Includes.allows source world) (λ tree looks. g.M.Tree.Tree.allows tree looks) c.args.options.now c.args.means.now.environment.now
    g.D.Disk.honest (λ d. g.D.Disk.seen d) (λ d. now (g.D.Disk.moments d)) c.args.options.now.targets (c.args.disk, none_tried) (made.result.1, tried)) =
    part_makes (λ source world. g.M.Includes.Includes.allows source world) (λ tree looks. g.M.Tree.Tree.allows tree looks) c.args.means.now.environment.now c.in-Ok.whole c.args.options.now
    c.in-Ok.ensures.makefiles c.in-Ok.ensures.profile c.in-Ok.ensures.definitions g.D.Disk.honest (λ d. g.D.Disk.seen d) (λ d. now (g.D.Disk.moments d))
    c.args.options.now.targets c.in-Ok.ensures.targets c.in-Ok.ensures.all c.in-Ok.ensures.goes_on none_tried made.new.includes made.new.tree
    c.args.disk made.result.1 none_tried tried made.result.2 made.result.0 told.result refl
    (if_ok told.result _ _ (λ s same. sym c.in-Ok-made_or_ends.ensures.found ∙ same) told.ensures.found)
    (if_ok told.result _ _ (λ s adds. subst (λ t. AddsTried made.result.2 t tried) c.nothing-tried.ensures adds) told.ensures.adds)
    made.ensures.makes in
    if_ok c.lost_made.result.0 _ _ (λ s is. (c.lost_made.new.tried, is))
    (alone _ c.args.options.now.goes_on c.args.options.now.targets (c.args.disk, none_tried) (c.lost_made.result.1, c.lost_made.new.tried) c.lost_made.result.0
    (with_lost _ c.args.options.now.goes_on c.args.options.now.targets (c.args.disk, none_tried) (made.result.1, tried)
    (c.lost_made.result.1, c.lost_made.new.tried) told.result c.lost_made.result.0 first c.lost_made.ensures.behind))

pub returns-in-Ok-made_or_ends-clause-strict : goal.returns-in-Ok-made_or_ends-clause-strict
returns-in-Ok-made_or_ends-clause-strict g c = λ strict.
    let made = c.build_at_once-found in
    let told = c.add_behind-found in
    let tried = told.new.self in
    let first : IfOk told.result (MakesPart (λ source world. g.M.Includes.Includes.allows source world) (λ tree looks. g.M.Tree.Tree.allows tree looks) c.args.options.now c.args.means.now.environment.now
    g.D.Disk.honest (λ d. g.D.Disk.seen d) (λ d. now (g.D.Disk.moments d)) c.args.options.now.targets (c.args.disk, none_tried) (made.result.1, tried)) =
    part_makes (λ source world. g.M.Includes.Includes.allows source world) (λ tree looks. g.M.Tree.Tree.allows tree looks) c.args.means.now.environment.now c.in-Ok.whole c.args.options.now
    c.in-Ok.ensures.makefiles c.in-Ok.ensures.profile c.in-Ok.ensures.definitions g.D.Disk.honest (λ d. g.D.Disk.seen d) (λ d. now (g.D.Disk.moments d))
    c.args.options.now.targets c.in-Ok.ensures.targets c.in-Ok.ensures.all c.in-Ok.ensures.goes_on none_tried made.new.includes made.new.tree
    c.args.disk made.result.1 none_tried tried made.result.2 made.result.0 told.result refl
    (if_ok told.result _ _ (λ s same. sym c.in-Ok-made_or_ends.ensures.found ∙ same) told.ensures.found)
    (if_ok told.result _ _ (λ s adds. subst (λ t. AddsTried made.result.2 t tried) c.nothing-tried.ensures adds) told.ensures.adds)
    made.ensures.makes in
    let (same, names, status) = c.lost_made.ensures.strict strict in
    if_ok c.lost_made.result.0 _ _ (λ s is. (tried, is))
    (passed_on (λ disk. MakesPart (λ source world. g.M.Includes.Includes.allows source world) (λ tree looks. g.M.Tree.Tree.allows tree looks) c.args.options.now c.args.means.now.environment.now
    g.D.Disk.honest (λ d. g.D.Disk.seen d) (λ d. now (g.D.Disk.moments d)) c.args.options.now.targets (c.args.disk, none_tried) (disk, tried))
    told.result c.lost_made.result.0 made.result.1 c.lost_made.result.1 same status first)

pub returns-in-Ok-made_or_ends-clause-untouched : goal.returns-in-Ok-made_or_ends-clause-untouched
returns-in-Ok-made_or_ends-clause-untouched g c =
    leaves_both (λ source world. g.M.Includes.Includes.allows source world) (λ tree looks. g.M.Tree.Tree.allows tree looks) c.args.means.now.environment.now c.args.options.now
    c.args.disk c.build_at_once-found.result.1 c.lost_made.result.1
    (part_leaves (λ source world. g.M.Includes.Includes.allows source world) (λ tree looks. g.M.Tree.Tree.allows tree looks) c.args.means.now.environment.now c.in-Ok.whole c.args.options.now
    c.in-Ok.ensures.makefiles c.in-Ok.ensures.profile c.in-Ok.ensures.definitions c.build_at_once-found.new.includes c.build_at_once-found.new.tree c.args.disk c.build_at_once-found.result.1
    c.build_at_once-found.ensures.untouched)
    c.lost_made.ensures.untouched

-- they are made in parts, the first over a disk that recovers what was found
pub returns-in-Ok-in_parts-clause-in_turn : goal.returns-in-Ok-in_parts-clause-in_turn
returns-in-Ok-in_parts-clause-in_turn g c =
    in_parts_over _ c.args.options.now.goes_on c.args.options.now.targets c.deref-in-Ok-in_parts.result.now (c.args.disk, none_tried) (c.build_at_once-found.result.1, none_tried)
    (λ names. (c.made_in_turn.result.1, names)) c.made_in_turn.result.0 (subst (AreParts c.args.options.now.targets) (sym c.deref-in-Ok-in_parts.ensures.value) c.in-Ok-in_parts.ensures)
    (made_before (λ source world. g.M.Includes.Includes.allows source world) (λ tree looks. g.M.Tree.Tree.allows tree looks) c.args.means.now.environment.now c.args.options.now
    g.D.Disk.honest (λ d. g.D.Disk.seen d) (λ d. now (g.D.Disk.moments d)) c.args.disk c.build_at_once-found.result.1
    (subst (λ (p : Profile). RecoversAsBefore (kept_form p) g.D.Disk.honest (g.D.Disk.seen c.args.disk) (g.D.Disk.seen c.build_at_once-found.result.1)) c.in-Ok.ensures.profile
    (before_of _ c.build_at_once-found.result.0 c.build_at_once-found.ensures.parted c.in-Err-made_or_ends.ensures.parted)) none_tried)
    c.made_in_turn.ensures.in_turn

pub returns-in-Ok-in_parts-clause-untouched : goal.returns-in-Ok-in_parts-clause-untouched
returns-in-Ok-in_parts-clause-untouched g c =
    leaves_both (λ source world. g.M.Includes.Includes.allows source world) (λ tree looks. g.M.Tree.Tree.allows tree looks) c.args.means.now.environment.now c.args.options.now
    c.args.disk c.build_at_once-found.result.1 c.made_in_turn.result.1
    (part_leaves (λ source world. g.M.Includes.Includes.allows source world) (λ tree looks. g.M.Tree.Tree.allows tree looks) c.args.means.now.environment.now c.in-Ok.whole c.args.options.now
    c.in-Ok.ensures.makefiles c.in-Ok.ensures.profile c.in-Ok.ensures.definitions c.build_at_once-found.new.includes c.build_at_once-found.new.tree c.args.disk c.build_at_once-found.result.1
    c.build_at_once-found.ensures.untouched)
    c.made_in_turn.ensures.untouched

pub returns-clause-untouched : goal.returns-clause-untouched
returns-clause-untouched g c =
    part_leaves (λ source world. g.M.Includes.Includes.allows source world) (λ tree looks. g.M.Tree.Tree.allows tree looks) c.args.means.now.environment.now c.in-Ok.whole c.args.options.now
    c.in-Ok.ensures.makefiles c.in-Ok.ensures.profile c.in-Ok.ensures.definitions c.build_at_once-found.new.includes c.build_at_once-found.new.tree c.args.disk c.build_at_once-found.result.1
    c.build_at_once-found.ensures.untouched
