use Rattle.std.proofs.Common.{◌∙◌, ◌+◌, Bool, false, not, Option, List, ℕ, sym, ap, arith}
use Rattle.std.specs.Option.{option_copied}
use Rattle.st_marks.specs.declared.mark.Mark.{Mark}
use Rattle.mk_marks.specs.Marks.{so_many_kept}
use Rattle.mk_marks.specs.Noted.{noted_by}
use Rattle.mk_marks.specs.declared.kept.Kept.{Kept}
use Rattle.mk_marks.specs.declared.noted.Noted.{Noted}
use Rattle.mk_marks.proofs.SaidLemmas.{said_of, nothing_said}
use Rattle.mk_marks.proofs.noted.note_in.Goals as goal

-- what each text says of these
abbrev by : (source : Option (List ℕ)) (others names : ℕ) → Option (Option (List ℕ) × List Mark) → Noted
by source others names said = noted_by said source others names

abbrev noted_with : (changed : Bool) (kept : Kept) → Noted
noted_with changed kept = record { source_changed = changed; kept = kept }

pub returns-in-None : goal.returns-in-None
returns-in-None c =
    ap (noted_with false) c.nothing.ensures
    ∙ sym (ap (by (option_copied c.args.source) c.args.others (c.args.explicit + c.args.hidden))
    (nothing_said c.args.text.now (λ i. omega (arith, c.type_inv.text i)) c.in-None.ensures.none))

pub returns-in-Some : goal.returns-in-Some
returns-in-Some c =
    ap (λ same. noted_with (not same) c.so_many.result) c.is_same_source.ensures
    ∙ ap (noted_with _) (c.so_many.ensures ∙ ap (so_many_kept c.in-Some.said.marks) c.count_with.ensures)
    ∙ sym (ap (by (option_copied c.args.source) c.args.others (c.args.explicit + c.args.hidden))
    (said_of (option_copied c.in-Some.said.source) c.in-Some.said.marks c.args.text.now c.in-Some.ensures.found))
