use Rattle.std.proofs.Common.{◌≡◌, ◌-◌, ◌<◌, ℕ, IfErr, List, length, drop, map, option_map, option_copied, Some, Ok, Err, refl, sym, ap, ◌∙◌, subst, arith, rules}
use Rattle.std.proofs.lemmas.Result.{err_from_is_err_and}
use Rattle.mk_statements.specs.Reading.{Stated, stated}
use Rattle.mk_taken.specs.Place as taken
use Rattle.mk_taken.specs.Reading.{Reads}
use Rattle.mk_taken.specs.Shown.{other_by, outcome_of, place_of, LeavesFewer}
use Rattle.mk_taken.specs.declared.other.Other as code_other
use Rattle.mk_taken.specs.declared.other.Reached as code_reached
use Rattle.mk_variables.specs.Table.{table_of}
use Rattle.mk_gnu_eval.specs.Reading.{Each, Searches, Hands, Lines, Text, Named}
use Rattle.mk_gnu_eval.specs.Shown.{here_of, progress_of, IsRefused}
use Rattle.mk_gnu_eval.proofs.ReadingLemmas.{refused_map, on_ok, on_err, search_refused, line_refused, hands_search, includes_end, each_next, each_refused, deeper_named, deeper_refused, missing_refused}
use Rattle.mk_gnu_eval.proofs.TextLemmas.{lines_behind, lines_go_on, lines_end, lines_refused, lines_stopped}
use Rattle.mk_gnu_eval.proofs.makefile.+reading.Goals as goal

pub read_lines-returns-in_err-line-clause-refused : goal.read_lines-returns-in_err-line-clause-refused
read_lines-returns-in_err-line-clause-refused g t c = λ world ok oks.
    let now = c.loop-reading in
    let told = err_from_is_err_and c.from_residual.result c.from_residual.ensures.1 in
    rw (told.1, told.2)
    (lines_refused world (Named world c.args.levels) c.args.file.now (map stated (drop now.place c.args.lines.now)) now.reading now.progress (map stated c.args.lines.now)
    c.args.progress.now c.in_err-line.field-0.0
    (now.invariant.leads world (c.next_other.ensures.narrows world.answers ok) oks) (c.in_err-line.ensures.refused world.answers ok))

pub read_lines-returns-clause-told : goal.read_lines-returns-clause-told
read_lines-returns-clause-told g t c = λ world ok oks.
    let now = c.loop-reading in
    let next = c.next_other.new in
    let left = map stated (drop now.place c.args.lines.now) in
    let reads : Reads world.answers left (place_of (table_of now.progress.table) now.reading) (taken.ends (place_of (table_of next.progress.table) next.reading)) =
    subst (λ (r : code_reached.Reached). Reads world.answers left (place_of (table_of now.progress.table) now.reading) (outcome_of (place_of (table_of next.progress.table) next.reading) r))
    c.in_default.is (c.in_ok-line.ensures.told world.answers ok) in
    now.invariant.leads world (c.next_other.ensures.narrows world.answers ok) oks (Ok (progress_of next.progress))
    (lines_end world (Named world c.args.levels) c.args.file.now left now.reading next.reading now.progress next.progress c.next_other.ensures.items reads)

pub read_lines-returns-in_err-take-clause-refused : goal.read_lines-returns-in_err-take-clause-refused
read_lines-returns-in_err-take-clause-refused g t c = λ world ok oks.
    let now = c.loop-reading in
    let next = c.next_other.new in
    let at = c.in-Other in
    let left = map stated (drop now.place c.args.lines.now) in
    let more = map stated at.more.now in
    let before = c.take.ensures.narrows world ok in
    let reads : Reads world.answers left (place_of (table_of now.progress.table) now.reading)
    (taken.reaches (place_of (table_of next.progress.table) next.reading) at.line (other_by at.other) more) =
    subst (λ (r : code_reached.Reached). Reads world.answers left (place_of (table_of now.progress.table) now.reading) (outcome_of (place_of (table_of next.progress.table) next.reading) r))
    at.is (c.in_ok-line.ensures.told world.answers before) in
    let told = err_from_is_err_and c.from_residual-in_err-take.result c.from_residual-in_err-take.ensures.1 in
    rw (told.1, told.2)
    (lines_stopped world (Named world c.args.levels) c.args.file.now left more now.reading next.reading now.progress next.progress at.line (other_by at.other)
    (map stated c.args.lines.now) c.args.progress.now c.in_err-take.field-0.0
    (now.invariant.leads world (c.next_other.ensures.narrows world.answers before) (c.take.ensures.narrows_files world oks))
    c.next_other.ensures.items reads (c.in_err-take.ensures.refused world ok oks))

pub read_lines-loop-reading-preserved : goal.read_lines-loop-reading-preserved
read_lines-loop-reading-preserved g t c =
    let now = c.loop-reading in
    let next = c.next_other.new in
    let at = c.in-Other in
    let lines = c.args.lines.now in
    let count = length lines - length at.more.now in
    let fewer : length at.more.now < length lines - now.place =
    subst (λ (r : code_reached.Reached). LeavesFewer (length lines - now.place) r) at.is c.in_ok-line.ensures.fewer in
    record {
      leads = λ world ok oks outcome rest.
          let left = map stated (drop now.place lines) in
          let more = map stated at.more.now in
          let before = c.take.ensures.narrows world ok in
          let included = Named world c.args.levels in
          let reads : Reads world.answers left (place_of (table_of now.progress.table) now.reading)
          (taken.reaches (place_of (table_of next.progress.table) next.reading) at.line (other_by at.other) more) =
          subst (λ (r : code_reached.Reached). Reads world.answers left (place_of (table_of now.progress.table) now.reading) (outcome_of (place_of (table_of next.progress.table) next.reading) r))
          at.is (c.in_ok-line.ensures.told world.answers before) in
          let is : map stated (drop count lines) ≡ more =
          lines_behind world.answers lines at.more.now now.place count (place_of (table_of now.progress.table) now.reading)
          (place_of (table_of next.progress.table) next.reading) at.line (other_by at.other) reads (omega (arith, fewer)) in
          now.invariant.leads world (c.next_other.ensures.narrows world.answers before) (c.take.ensures.narrows_files world oks) outcome
          (lines_go_on world included c.args.file.now left more now.reading next.reading now.progress next.progress at.line (other_by at.other)
          c.next_other.ensures.items reads (Ok (here_of c.take.new.reading c.take.new.progress)) (c.in_ok-take.ensures.told world ok oks) outcome
          (subst (λ (ls : List Stated). Lines world included c.args.file.now ls (here_of c.take.new.reading c.take.new.progress) outcome) is rest));
      narrows = λ world ok. now.invariant.narrows world (c.next_other.ensures.narrows world.answers (c.take.ensures.narrows world ok));
      narrows_files = λ world oks. now.invariant.narrows_files world (c.take.ensures.narrows_files world oks);
    }

pub take-returns-in_err-rule-in-Expands-clause-refused : goal.take-returns-in_err-rule-in-Expands-clause-refused
take-returns-in_err-rule-in-Expands-clause-refused g t c = λ world ok oks.
    let site = c.args.site.now in
    let here = here_of c.args.reading.now c.args.progress.now in
    let it = c.in_err-rule-in-Expands.field-0.0 in
    let told = err_from_is_err_and c.from_residual-in_err-rule-in-Expands.result c.from_residual-in_err-rule-in-Expands.ensures.1 in
    rw (told.1, told.2)
    (subst (λ (o : code_other.Other). IsRefused (λ why. Hands world (Named world site.levels) site.file.now site.line here (other_by o) (Err why)) it) (sym c.in-Expands.is)
    (line_refused world (Named world site.levels) site.file.now site.line here (option_copied c.in-Expands.recipe) c.in-Expands.text.now it
    (c.in_err-rule-in-Expands.ensures.refused world.answers ok)))

pub take-returns-in-Vpath-clause-told : goal.take-returns-in-Vpath-clause-told
take-returns-in-Vpath-clause-told g t c = λ world ok oks.
    let site = c.args.site.now in
    let included = Named world site.levels in
    let old = c.args.progress.now in
    let new = c.take_search.new.progress in
    let r = c.args.reading.now in
    let at : code_other.Other → Type 0 = λ o. Hands world included site.file.now site.line (here_of r old) (other_by o) (Ok (here_of r new)) in
    on_ok c.take_search.result (Searches world.answers site.file.now site.line c.in-Vpath.text.now (progress_of old) (Ok (progress_of new))) (at c.args.other)
    (λ h. subst at (sym c.in-Vpath.is) (hands_search world included site.file.now site.line r old new c.in-Vpath.text.now h))
    (c.take_search.ensures.told world.answers ok)

pub take-returns-in-Vpath-clause-refused : goal.take-returns-in-Vpath-clause-refused
take-returns-in-Vpath-clause-refused g t c = λ world ok oks.
    let site = c.args.site.now in
    let included = Named world site.levels in
    let here = here_of c.args.reading.now c.args.progress.now in
    let text = c.in-Vpath.text.now in
    subst (λ (o : code_other.Other). IfErr c.take_search.result (IsRefused (λ why. Hands world included site.file.now site.line here (other_by o) (Err why)))) (sym c.in-Vpath.is)
    (on_err c.take_search.result (IsRefused (λ why. Searches world.answers site.file.now site.line text (progress_of c.args.progress.now) (Err why)))
    (IsRefused (λ why. Hands world included site.file.now site.line here (taken.searches text) (Err why)))
    (search_refused world included site.file.now site.line here text) (c.take_search.ensures.refused world.answers ok))

pub read_line-returns-in_err-value-clause-refused : goal.read_line-returns-in_err-value-clause-refused
read_line-returns-in_err-value-clause-refused g t c = λ world ok oks.
    let site = c.args.site.now in
    let told = err_from_is_err_and c.from_residual.result c.from_residual.ensures.1 in
    rw (told.1, told.2)
    (includes_end world (Named world site.levels) site.file.now site.line c.args.is_required c.args.text.now (progress_of c.args.progress.now) c.in_err-value.field-0.0
    (c.in_err-value.ensures.refused world.answers ok))

pub read_each-loop-name-preserved : goal.read_each-loop-name-preserved
read_each-loop-name-preserved g t c =
    let site = c.args.site.now in
    let now = c.loop-name in
    record {
      leads = λ world ok oks outcome rest.
          now.invariant.leads world (c.read_named.ensures.narrows world ok) (c.read_named.ensures.narrows_files world oks) outcome
          (each_next (Named world site.levels site.file.now site.line c.args.is_required) now.name-iterator c.next.new.self c.in-Some.name.now c.in-Some.ensures.steps
          (progress_of now.progress) (progress_of c.read_named.new.progress) (c.in_ok-read_named.ensures.told world ok oks) outcome rest);
      narrows = λ world ok. now.invariant.narrows world (c.read_named.ensures.narrows world ok);
      narrows_files = λ world oks. now.invariant.narrows_files world (c.read_named.ensures.narrows_files world oks);
    }

pub read_each-returns-in_err-read_named-clause-refused : goal.read_each-returns-in_err-read_named-clause-refused
read_each-returns-in_err-read_named-clause-refused g t c = λ world ok oks.
    let site = c.args.site.now in
    let now = c.loop-name in
    let one = Named world site.levels site.file.now site.line c.args.is_required in
    let told = err_from_is_err_and c.from_residual.result c.from_residual.ensures.1 in
    rw (told.1, told.2)
    (refused_map (λ why. Each one now.name-iterator (progress_of now.progress) (Err why)) (λ why. Each one c.args.names.now (progress_of c.args.progress.now) (Err why))
    (λ why h. now.invariant.leads world (c.read_named.ensures.narrows world ok) (c.read_named.ensures.narrows_files world oks) (Err why) h)
    c.in_err-read_named.field-0.0
    (each_refused one now.name-iterator c.next.new.self c.in-Some.name.now c.in-Some.ensures.steps (progress_of now.progress) c.in_err-read_named.field-0.0
    (c.in_err-read_named.ensures.refused world ok oks)))

pub read_each-returns-clause-told : goal.read_each-returns-clause-told
read_each-returns-clause-told g t c = λ world ok oks.
    let site = c.args.site.now in
    let now = c.loop-name in
    let one = Named world site.levels site.file.now site.line c.args.is_required in
    now.invariant.leads world ok oks (Ok (progress_of now.progress))
    (subst (λ (names : List (List ℕ)). Each one names (progress_of now.progress) (Ok (progress_of now.progress))) (sym (c.in-None.ensures.steps).0) refl)

pub read_named-returns-in-Some-clause-told : goal.read_named-returns-in-Some-clause-told
read_named-returns-in-Some-clause-told g t c = λ world ok oks.
    let site = c.args.site.now in
    let deeper = site.levels - 1 in
    let old = progress_of c.args.progress.now in
    let new = progress_of c.read_text.new.progress in
    let content = c.in_ok-text.ensures.content world.files (c.read_text.ensures.narrows_files world oks) in
    on_ok c.read_text.result (Text world (Named world deeper) c.args.name.now c.as_slice.result.now old (Ok new))
    (Named world site.levels site.file.now site.line c.args.is_required c.args.name.now old (Ok new))
    (λ h. deeper_named world site.file.now site.line c.args.name.now old c.args.is_required site.levels deeper (omega arith) (Some c.in-Some.text.value.items)
    (sym (ap (option_map (λ v. v.value.items)) c.in-Some.is) ∙ content) (Ok new)
    (subst (λ (bytes : List ℕ). Text world (Named world deeper) c.args.name.now bytes old (Ok new)) (c.as_slice.ensures.value ∙ ap (λ v. v.items) c.deref.ensures) h))
    (c.read_text.ensures.told world ok oks)

pub read_named-returns-in-Some-clause-refused : goal.read_named-returns-in-Some-clause-refused
read_named-returns-in-Some-clause-refused g t c = λ world ok oks.
    let site = c.args.site.now in
    let deeper = site.levels - 1 in
    let old = progress_of c.args.progress.now in
    let content = c.in_ok-text.ensures.content world.files (c.read_text.ensures.narrows_files world oks) in
    on_err c.read_text.result (IsRefused (λ why. Text world (Named world deeper) c.args.name.now c.as_slice.result.now old (Err why)))
    (IsRefused (λ why. Named world site.levels site.file.now site.line c.args.is_required c.args.name.now old (Err why)))
    (λ it h. deeper_refused world site.file.now site.line c.args.name.now old c.args.is_required site.levels deeper (omega arith) (Some c.in-Some.text.value.items)
    (sym (ap (option_map (λ v. v.value.items)) c.in-Some.is) ∙ content) it
    (subst (λ (bytes : List ℕ). IsRefused (λ why. Text world (Named world deeper) c.args.name.now bytes old (Err why)) it) (c.as_slice.ensures.value ∙ ap (λ v. v.items) c.deref.ensures) h))
    (c.read_text.ensures.refused world ok oks)

pub read_named-returns-in-None-clause-refused : goal.read_named-returns-in-None-clause-refused
read_named-returns-in-None-clause-refused g t c = λ world ok oks.
    let site = c.args.site.now in
    let content = c.in_ok-text.ensures.content world.files oks in
    missing_refused world site.file.now site.line c.args.name.now (progress_of c.args.progress.now) c.args.is_required site.levels (site.levels - 1) (omega arith) (search rules)
    (sym (ap (option_map (λ v. v.value.items)) c.in-None.is) ∙ content) c.refuse_missing.result c.refuse_missing.ensures
