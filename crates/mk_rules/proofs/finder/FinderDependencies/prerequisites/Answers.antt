use Rattle.std.proofs.Common.{refl}
use Rattle.mk_sources.specs.LooksLaws.{looks_of_any}
use Rattle.mk_rules.proofs.finder.FinderDependencies.prerequisites.Goals as goal

-- what was found of another name stays
pub returns-clause-kept : goal.returns-clause-kept
returns-clause-kept g c = λ other node is looks now. is looks (c.look_up.ensures.looks.narrows looks now)

pub returns-clause-follows : goal.returns-clause-follows
returns-clause-follows g c = (refl, refl, looks_of_any _ _ _ _ _ _ _ _ c.look_up.ensures.looks)
