use Rattle.std.proofs.Common.{◌≡◌, ◌∙◌, ℕ, List, inr, sym, subst}
use Rattle.std.specs.Option.{option_copied}
use Rattle.st_marks.specs.Encoding.{IsText}
use Rattle.jb_marks.specs.Each.{EachWith}
use Rattle.jb_marks.specs.Single.{IsMarkOf}
use Rattle.jb_marks.proofs.text.text_of_sights.Goals as goal

-- no text says these marks
pub returns-in_default : goal.returns-in_default
returns-in_default c =
    let says : (t : List ℕ) → IsText (option_copied c.args.source) c.as_slice.result.now t → ⊥ = rw c.in_default.is at c.in_ok-text.ensures.none in (
      c.as_slice.result.now,
      subst (EachWith IsMarkOf c.args.sights.now) (sym c.as_slice.ensures.value) c.in_ok-marks.ensures,
      inr (c.new-in_default.ensures ∙ c.new.ensures.items, says),
    )
