use Rattle.std.proofs.Common.{sym, ◌∙◌, subst, arith}
use Rattle.mk_names.specs.Links.{hashes_of, befores_of, AreFoundBy}
use Rattle.mk_names.proofs.ChainLemmas.{seeks_start, none_same}
use Rattle.mk_names.proofs.LinkLemmas.{seeks_link}
use Rattle.mk_names.proofs.names.Names.find.Goals as goal

pub loop-place-init : goal.loop-place-init
loop-place-init c =
    let links = c.self.inside.links.items in
    let heads = c.self.inside.heads.items in
    let found : AreFoundBy c.args.self.now links heads = subst (λ names. AreFoundBy names links heads) c.self.view_is c.self.invariant.0 in
    seeks_start c.args.self.now (hashes_of links) (befores_of links) heads c.args.name.now c.args.hash c.len.result c.bucket_of.result c.index-place.result.now
    found.hashed found.chained c.requires (omega arith) c.bucket_of.ensures.within c.bucket_of.ensures.value c.index-place.ensures

pub loop-place-preserved : goal.loop-place-preserved
loop-place-preserved c =
    let links = c.self.inside.links.items in
    let heads = c.self.inside.heads.items in
    let found : AreFoundBy c.args.self.now links heads = subst (λ names. AreFoundBy names links heads) c.self.view_is c.self.invariant.0 in
    seeks_link c.args.self.now links heads c.args.name.now c.loop-place.place c.index.result.now
    found c.loop-place.invariant c.loop-place-test.true (sym c.is_at.ensures ∙ c.if-is_at.false) c.index.ensures

pub returns-clause-none : goal.returns-clause-none
returns-clause-none c =
    sym (none_same c.args.self.now c.args.name.now (λ i below. c.loop-place.invariant.absent i (omega (arith, c.loop-place-test.false)) below))
