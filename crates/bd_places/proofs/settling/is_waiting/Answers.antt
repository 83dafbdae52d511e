use Rattle.std.proofs.Common.{◌≡◌, false, refl, sym, ap, ◌∙◌}
use Rattle.bd_links.specs.declared.stand.Stand.{Stand}
use Rattle.bd_links.specs.declared.stand.Stand.TheVariants.{Waiting, Ready, Running, Unflushed, Flushing, Settled}
use Rattle.bd_links.specs.SixLists.{same_stand}
use Rattle.bd_places.proofs.LookLemmas.{waits_by_stand}
use Rattle.bd_places.proofs.settling.is_waiting.Goals as goal

elsewhere : (r : Stand) → (r ≡ Waiting → ⊥) → same_stand r Waiting ≡ false
elsewhere Waiting not = absurd (not refl)
elsewhere Ready not = refl
elsewhere Running not = refl
elsewhere Unflushed not = refl
elsewhere Flushing not = refl
elsewhere Settled not = refl

pub returns-in-Waiting : goal.returns-in-Waiting
returns-in-Waiting c =
    sym (waits_by_stand c.args.links.now.lists c.args.node c.list_of.result c.list_of.ensures ∙ ap (λ s. same_stand s Waiting) c.in-Waiting.is)

pub returns-in_default : goal.returns-in_default
returns-in_default c =
    sym (waits_by_stand c.args.links.now.lists c.args.node c.list_of.result c.list_of.ensures ∙ elsewhere c.list_of.result c.in_default.not-Waiting)
