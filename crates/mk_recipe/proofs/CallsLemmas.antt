-- Where a search finds bytes in a text, they stand in it.
use Rattle.std.proofs.Common.{◌≡◌, ◌∙◌, ◌+◌, ◌≤◌, ℕ, List, ◌++◌, length, take, drop, refl, sym, ap, arith, take-append-drop, length-append}
use Rattle.std.proofs.Math.Seq.{drop-append_seam, take-append_seam}
use Rattle.memchr.specs.Find.{OccursAt}
use Rattle.memchr.proofs.lemmas.MatchLemmas.{OccursAt-split, OccursAt-from_part}
use Rattle.bstr.specs.Text.{Contains}
use Rattle.mk_recipe.specs.Line.{StandsIn}

pub stands_in : (text bytes : List ℕ) → Contains text bytes → StandsIn bytes text
stands_in text bytes (k, occurs) = (
  take k text,
  drop (k + length bytes) text,
  sym (take-append-drop k text) ∙ ap (λ rest. take k text ++ rest) (OccursAt-split text bytes k occurs),
)

pub contains : (text bytes : List ℕ) → StandsIn bytes text → Contains text bytes
contains text bytes (before, behind, parts) =
    let whole : length text ≡ length before + (length bytes + length behind) =
    ap length parts ∙ length-append before (bytes ++ behind) ∙ ap (λ n. length before + n) (length-append bytes behind) in
    let at : drop (length before) text ≡ bytes ++ behind = ap (λ t. drop (length before) t) parts ∙ drop-append_seam before (bytes ++ behind) in
    let here : take (length bytes) (drop (length before) text) ≡ bytes = ap (λ t. take (length bytes) t) at ∙ take-append_seam bytes behind in
    (length before, OccursAt-from_part text bytes (length before) (omega (arith, whole)) here)
