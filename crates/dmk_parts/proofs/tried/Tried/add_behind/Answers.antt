use Rattle.std.proofs.Common.{List, subst}
use Rattle.dmk_parts.specs.Tried.{AddsSome, AddsBoth, AddsTried}
use Rattle.dmk_parts.specs.declared.made.Made.{Made}
use Rattle.dmk_parts.proofs.BehindLemmas.{adds_tried, whatever}
use Rattle.dmk_parts.proofs.tried.Tried.add_behind.Goals as goal

pub returns-in-Ok-clause-adds : goal.returns-in-Ok-clause-adds
returns-in-Ok-clause-adds g c =
    let left = c.args.left.now in
    let before = c.args.self.now in
    let now = c.add.new.self in
    whatever c.args.found (AddsTried left before now)
    (adds_tried left before now (subst (λ (made : List Made). AddsSome made before.built now.built) c.deref.ensures.value c.add.ensures.built)
    (subst (λ (made : List Made). AddsBoth made left.filed before.filed now.filed) c.deref.ensures.value c.in-Ok.ensures.filed) c.in-Ok.ensures.failed)
