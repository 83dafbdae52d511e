use Rattle.std.proofs.Common.{sym, subst}
use Rattle.mk_names.specs.Links.{AreFoundBy}
use Rattle.mk_names.proofs.LinkLemmas.{other_link}
use Rattle.mk_names.proofs.names.Names.is_at.Goals as goal

pub returns-then-index-hash : goal.returns-then-index-hash
returns-then-index-hash c =
    let links = c.self.inside.links.items in
    let heads = c.self.inside.heads.items in
    let found : AreFoundBy c.args.self.now links heads = subst (λ names. AreFoundBy names links heads) c.self.view_is c.self.invariant.0 in
    sym (other_link c.args.self.now links heads c.args.name.now c.args.number c.index.result.now c.args.hash found c.requires.number c.index.ensures c.requires.hash c.if-index-hash.true)
