use Rattle.std.proofs.Common.{◌≡◌, map, take}
use Rattle.mk_nodes.specs.Links.{leads_on}
use Rattle.mk_sources.proofs.links.all_links.Given as goal

abbrev pub invariant-loop-form : goal.invariant-loop-form
invariant-loop-form l = l.links.items ≡ map (leads_on l.forms) (take l.form-index l.forms)
