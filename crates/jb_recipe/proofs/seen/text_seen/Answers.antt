use Rattle.std.proofs.Common.{◌≡◌, ◌∙◌, ℕ, List, IfOk, Option, subst}
use Rattle.std.specs.Option.{option_copied}
use Rattle.jb_marks.specs.Sights.{IsTextOfSights}
use Rattle.jb_marks.specs.declared.sights.Sight.{Sight}
use Rattle.jb_recipe.specs.Seen.{sights_at}
use Rattle.jb_recipe.proofs.seen.text_seen.Goals as goal

-- it is of the source and of what the graph has of the files
pub returns-in_ok-sights-in-Marked : goal.returns-in_ok-sights-in-Marked
returns-in_ok-sights-in-Marked c =
    let found = c.text_of_sights.result in
    let of_sights = subst (λ (sights : List Sight). IfOk found (λ text. IsTextOfSights (option_copied c.source_at.result) sights text))
    (c.as_slice.ensures.value ∙ c.in_ok-sights-in-Marked.ensures) c.text_of_sights.ensures in
    rw c.in-Marked.is (subst (λ (source : Option (List ℕ)). IfOk found (λ text. IsTextOfSights source (sights_at c.args.graph.now c.args.node) text))
    c.source_at.ensures of_sights)
