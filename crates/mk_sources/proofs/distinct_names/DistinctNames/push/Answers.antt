use Rattle.std.proofs.Common.{length, inr, sym, ap, ◌∙◌, ⊎_elim, arith}
use Rattle.mk_names.specs.Names.{has_name, added}
use Rattle.mk_sources.specs.DistinctNames.{HaveTheSame, IsSetOf}
use Rattle.mk_sources.proofs.SetLemmas.{same_pushed}
use Rattle.mk_sources.proofs.distinct_names.DistinctNames.push.Goals as goal

pub invariant_of-self-2 : goal.invariant_of-self-2
invariant_of-self-2 c =
    let set = c.self.inside.set in
    let list = c.self.inside.list in
    let name = c.args.name.now in
    let moved : HaveTheSame set list → IsSetOf c.mention.new.self c.push-2.new.self
    = λ same. inr (λ n.
    ap (λ s. has_name s n) (c.in_ok-_is_new.ensures.ok ∙ ap (λ s. added s name) c.replace-set.ensures.value)
    ∙ same_pushed set list name same n ∙ ap (λ l. has_name l n) (sym c.in_ok-push-2.ensures.ok)) in
    ⊎_elim (λ none. let z = ap length none in let some = c.if-len-eq0.false in let l = c.len.ensures in absurd (omega arith)) moved c.self.invariant
