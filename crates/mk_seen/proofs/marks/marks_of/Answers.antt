use Rattle.std.proofs.Common.{◌∙◌, sym, ap}
use Rattle.mk_marks.specs.Marks.{later_marks}
use Rattle.mk_marks.specs.declared.noted.Noted.{Noted}
use Rattle.mk_seen.specs.Marks.{look_from, looks_beside, marks_behind, noted_in}
use Rattle.mk_seen.proofs.MarkLemmas.{behind_map}
use Rattle.mk_seen.proofs.marks.marks_of.Goals as goal

pub marks_left-requires-clause-left : goal.marks_left-requires-clause-left
marks_left-requires-clause-left c =
    let graph = c.args.graph.now in
    let n = c.args.node in
    c.pass_marks.ensures ∙ ap (λ looks. marks_behind looks c.take_mark-own.new.self) c.looks_beside.ensures
    ∙ ap (marks_behind (looks_beside graph n)) c.take_mark-own.ensures.later
    ∙ ap (λ (m : Noted). marks_behind (looks_beside graph n) (later_marks m.kept)) c.noted_in-source_changed.ensures
    ∙ sym (behind_map look_from (looks_beside graph n) (later_marks (noted_in graph n c.in-Some.entry.now).kept))
