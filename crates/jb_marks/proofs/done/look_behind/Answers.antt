use Rattle.std.proofs.Common.{ℕ, List, subst}
use Rattle.std.specs.Prelude.{◌↔◌, IsTrue, IfSome, IfNone}
use Rattle.std.specs.Option.{option_copied}
use Rattle.st_marks.specs.Encoding.{IsText}
use Rattle.st_marks.specs.declared.mark.Mark.{Mark}
use Rattle.jb_marks.specs.declared.sights.Sight.{Sight}
use Rattle.jb_marks.specs.Done.{AreMarks}
use Rattle.jb_marks.specs.Same.{IsSame}
use Rattle.jb_marks.proofs.done.look_behind.Goals as goal

pub returns : goal.returns
returns g c =
    let told = g.P.Sights.told c.args.place.now in
    let said = g.E.Earlier.said c.args.run.now in
    let before = c.args.before.now in
    let behind = c.in_ok-behind.behind.items in
    let marks = c.in_ok-marks.marks.items in
    let source = option_copied c.args.names.now.source in
    record {
      behind = behind;
      marks = marks;
      looked = c.in_ok-behind.ensures;
      marked = subst (λ (sights : List Sight). AreMarks told said before sights c.args.reported.now marks) c.as_slice.ensures.value c.in_ok-marks.ensures;
      same =
          subst (λ (sights : List Sight). IsTrue c.is_same.result ↔ IsSame before.files.items sights) c.as_slice-3.ensures.value
          (subst (λ (sights : List Sight). IsTrue c.is_same.result ↔ IsSame sights c.as_slice-3.result.now) c.as_slice-2.ensures.value c.is_same.ensures);
      text =
          subst (λ (ms : List Mark). IfSome c.in_ok-text_of.field-0 (λ text. IsText source ms text.items)) c.as_slice-4.ensures.value
          c.in_ok-text_of.ensures.some;
      none =
          subst (λ (ms : List Mark). IfNone c.in_ok-text_of.field-0 ((text : List ℕ) → IsText source ms text → ⊥)) c.as_slice-4.ensures.value
          c.in_ok-text_of.ensures.none;
    }
