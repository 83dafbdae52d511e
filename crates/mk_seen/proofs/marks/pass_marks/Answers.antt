use Rattle.std.proofs.Common.{◌≡◌, ◌∙◌, ◌+◌, ◌<◌, ℕ, add-one, List, ◌∷◌, length, drop, get_or, None, refl, sym, ap}
use Rattle.std.proofs.Math.Seq.{drop-cons}
use Rattle.mk_marks.specs.Marks.{later_marks}
use Rattle.mk_marks.specs.declared.kept.Kept.{Kept}
use Rattle.mk_seen.specs.Marks.{marks_behind}
use Rattle.mk_seen.proofs.marks.pass_marks.Goals as goal

one_more : {A : Type 0} (xs : List A) (i : ℕ) (x : A) (kept : Kept) → i < length xs →
    marks_behind (drop (i + 1) xs) (later_marks kept) ≡ marks_behind (drop i xs) kept
one_more xs i x kept within =
    let here : drop i xs ≡ get_or xs i x ∷ drop (i + 1) xs = drop-cons xs i x within ∙ rw add-one refl in
    ap (λ ys. marks_behind ys kept) (sym here)

pub loop-look-preserved : goal.loop-look-preserved
loop-look-preserved c =
    ap (marks_behind (drop (c.loop-look._look-index + 1) c.args.looks.now)) c.take_mark-mark.ensures.later
    ∙ one_more c.args.looks.now c.loop-look._look-index None c.loop-look.kept c.loop-look-test.true ∙ c.loop-look.invariant
