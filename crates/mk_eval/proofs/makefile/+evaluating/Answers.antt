use Rattle.std.proofs.Common.{rules, ◌≡◌, ◌&&◌, ◌∷◌, refl, length, List, ◌-◌, option_map, Some, None, sym, ap, subst, ◌∙◌, arith}
use Rattle.std.proofs.lemmas.Result.{err_from_is_err_and}
use Rattle.std.specs.Vec.Iter.{into_iter_items, into_iter_len}
use Rattle.byte_strings.specs.Blanks.{words}
use Rattle.mk_macros.specs.Expansion.{gives}
use Rattle.mk_macros.specs.Ranks.{defined_by}
use Rattle.mk_profile.specs.Profile.{is_wide}
use Rattle.mk_wildcards.specs.Pattern.{has_wildcard}
use Rattle.mk_reader.specs.declared.item.Statement.{Statement}
use Rattle.mk_reader.specs.declared.item.Statement.TheVariants as statement
use Rattle.mk_eval.specs.Makefile.{behind, GivesItems, InOrder, unread_items, StatementItems, IncludedItems, TextItems}
use Rattle.mk_eval.proofs.BehindLemmas.{behind_nothing, behind_more}
use Rattle.mk_eval.proofs.MakefileLemmas.{Reaches, nothing_left, one_fewer, included_deeper, line_fault, none_gathered, reach_fault, reach_more, reach_end, fault_passed_on, items_passed_on, none_given}
use Rattle.mk_eval.proofs.makefile.+evaluating.Goals as goal

pub evaluate_each-loop-name-init : goal.evaluate_each-loop-name-init
evaluate_each-loop-name-init g t c =
    let start = defined_by c.args.macros.now in
    record {
      gathered = λ world now. none_gathered behind (IncludedItems world c.args.levels c.args.file.now c.args.include.now) start (words c.args.names.now) c.new-items.result.items c.new-items.ensures.items;
      defined = sym (ap (behind start) c.new-items.ensures.items ∙ behind_nothing start);
      grows = λ world now. now;
    }

pub evaluate_each-returns-in_err-included-clause-items : goal.evaluate_each-returns-in_err-included-clause-items
evaluate_each-returns-in_err-included-clause-items g t c = λ world now.
    let p = err_from_is_err_and c.from_residual.result c.from_residual.ensures.1 in
    let included = IncludedItems world c.args.levels c.args.file.now c.args.include.now in
    let start = defined_by c.args.macros.now in
    let here = defined_by c.loop-name.macros in
    let gathered = c.loop-name.invariant.gathered world (c.evaluate_included.ensures.grows world now) in
    let told = fault_passed_on c.in_err-included.field-0.0 (included here c.in-Some.name.now) (InOrder behind included start (words c.args.names.now))
    (c.in_err-included.ensures.items world now)
    (λ fault h. reach_fault behind included start (words c.args.names.now) here c.loop-name.items.items _ _ c.in-Some.name.now fault gathered c.in-Some.ensures.word h) in
    rw (p.1, p.2) told

pub evaluate_each-returns-in_err-included-clause-grows : goal.evaluate_each-returns-in_err-included-clause-grows
evaluate_each-returns-in_err-included-clause-grows g t c = λ world now. c.loop-name.invariant.grows world (c.evaluate_included.ensures.grows world now)

pub evaluate_each-loop-name-preserved : goal.evaluate_each-loop-name-preserved
evaluate_each-loop-name-preserved g t c =
    let start = defined_by c.args.macros.now in
    let here = defined_by c.loop-name.macros in
    let next = defined_by c.evaluate_included.new.macros in
    let front = c.in_ok-included.included.items in
    record {
      gathered = λ world now.
          let included = IncludedItems world c.args.levels c.args.file.now c.args.include.now in
          let gathered = c.loop-name.invariant.gathered world (c.evaluate_included.ensures.grows world now) in
          reach_more behind included start (words c.args.names.now) here next c.loop-name.items.items _ front _ _ c.in-Some.name.now gathered c.in-Some.ensures.word
          (c.in_ok-included.ensures.items world now) c.in_ok-included.ensures.defined c.in_ok-append.ensures.items;
      defined = behind_more start here next c.loop-name.items.items _ front c.loop-name.invariant.defined c.in_ok-included.ensures.defined c.in_ok-append.ensures.items;
      grows = λ world now. c.loop-name.invariant.grows world (c.evaluate_included.ensures.grows world now);
    }

pub evaluate_each-returns-clause-items : goal.evaluate_each-returns-clause-items
evaluate_each-returns-clause-items g t c = λ world now.
    reach_end behind (IncludedItems world c.args.levels c.args.file.now c.args.include.now) (defined_by c.args.macros.now) (words c.args.names.now)
    (defined_by c.loop-name.macros) c.loop-name.items.items _ (c.loop-name.invariant.gathered world now) c.in_default.ensures.word

pub evaluate_line-returns-in_err-names-clause-items : goal.evaluate_line-returns-in_err-names-clause-items
evaluate_line-returns-in_err-names-clause-items g t c = λ world now.
    let p = err_from_is_err_and c.from_residual.result c.from_residual.ensures.1 in
    let told = line_fault world (IncludedItems world c.args.levels c.args.file.now) (defined_by c.args.macros.now) c.args.file.now c.args.include.now c.in_err-names.field-0.0 c.in_err-names.ensures.fault in
    rw (p.1, p.2) told

pub evaluate_line-returns-clause-items : goal.evaluate_line-returns-clause-items
evaluate_line-returns-clause-items g t c = λ world now.
    let included = IncludedItems world c.args.levels c.args.file.now in
    let start = defined_by c.args.macros.now in
    let names = c.in_ok-names.names.items in
    items_passed_on c.evaluate_each.result (InOrder behind (included c.args.include.now) start (words c.as_slice.result.now)) (StatementItems world included c.args.file.now start (statement.Include c.args.include.now))
    (c.evaluate_each.ensures.items world now)
    (λ o h. (gives names, c.in_ok-names.ensures.names, subst (λ bytes. InOrder behind (included c.args.include.now) start (words bytes) o) c.as_slice.ensures.value h))

pub evaluate_included-returns-in-None-clause-items : goal.evaluate_included-returns-in-None-clause-items
evaluate_included-returns-in-None-clause-items g t c = λ world now.
    let deeper = c.args.levels - 1 in
    let start = defined_by c.args.macros.now in
    let content = c.in_ok-read.ensures.content world now in
    items_passed_on c.missing.result (λ o. o ≡ unread_items (is_wide start.language && has_wildcard c.args.name.now) c.args.file.now c.args.include.now c.args.name.now)
    (IncludedItems world c.args.levels c.args.file.now c.args.include.now start c.args.name.now)
    (subst (λ p. GivesItems c.missing.result (λ o. o ≡ unread_items (is_wide p && has_wildcard c.args.name.now) c.args.file.now c.args.include.now c.args.name.now)) c.profile.ensures c.missing.ensures.items)
    (λ o h. included_deeper world c.args.levels deeper c.args.file.now c.args.include.now start c.args.name.now None o (omega arith)
    (sym (ap (option_map (λ v. v.value.items)) c.in-None.is) ∙ content) h)

pub evaluate_included-returns-in-None-clause-defined : goal.evaluate_included-returns-in-None-clause-defined
evaluate_included-returns-in-None-clause-defined g t c = none_given (defined_by c.args.macros.now) c.missing.result c.missing.ensures.none

pub evaluate_included-returns-in-Some-clause-items : goal.evaluate_included-returns-in-Some-clause-items
evaluate_included-returns-in-Some-clause-items g t c = λ world now.
    let deeper = c.args.levels - 1 in
    let start = defined_by c.args.macros.now in
    let content = c.in_ok-read.ensures.content world (c.evaluate_text.ensures.grows world now) in
    items_passed_on c.evaluate_text.result (TextItems world deeper start c.args.name.now c.as_slice.result.now) (IncludedItems world c.args.levels c.args.file.now c.args.include.now start c.args.name.now)
    (c.evaluate_text.ensures.items world now)
    (λ o h.
    let items = subst (λ bytes. TextItems world deeper start c.args.name.now bytes o) (c.as_slice.ensures.value ∙ ap (λ v. v.items) c.deref.ensures) h in
    included_deeper world c.args.levels deeper c.args.file.now c.args.include.now start c.args.name.now (Some c.in-Some.text.value.items) o (omega arith)
    (sym (ap (option_map (λ v. v.value.items)) c.in-Some.is) ∙ content) items)

pub evaluate_all-loop-statement-init : goal.evaluate_all-loop-statement-init
evaluate_all-loop-statement-init g t c =
    let gives = c.into_iter-statement-iterator.ensures.into_iter_gives in
    let all = c.args.statements.items in
    let start = defined_by c.args.macros.now in
    let count : into_iter_len c.into_iter-statement-iterator.result ≡ length all = search rules in
    record {
      left = count ∙ sym (ap length gives.0);
      gathered = λ world now.
          let one = StatementItems world (IncludedItems world c.args.levels c.args.file.now) c.args.file.now in
          subst (λ (left : List Statement). Reaches behind one start all start c.in_ok-items.items.items left) (sym gives.0) (none_gathered behind one start all c.in_ok-items.items.items c.in_ok-items.ensures.items);
      defined = sym (ap (behind start) c.in_ok-items.ensures.items ∙ behind_nothing start);
      grows = λ world now. now;
    }

pub evaluate_all-returns-in_err-add_item-in-Item-clause-items : goal.evaluate_all-returns-in_err-add_item-in-Item-clause-items
evaluate_all-returns-in_err-add_item-in-Item-clause-items g t c = λ world allowed.
    let now = c.loop-statement in
    let st = c.in-Some.ensures.steps in
    let more = into_iter_items c.next.new.self in
    let start = defined_by c.args.macros.now in
    let here = defined_by now.macros in
    let said = statement.Item c.in-Item.item in
    let at : into_iter_items now.statement-iterator ≡ said ∷ more = st.0 ∙ ap (λ (s : Statement). s ∷ more) c.in-Item.is in
    let p = err_from_is_err_and c.from_residual-in_err-add_item-in-Item.result c.from_residual-in_err-add_item-in-Item.ensures.1 in
    let one = StatementItems world (IncludedItems world c.args.levels c.args.file.now) c.args.file.now in
    let told = fault_passed_on c.in_err-add_item-in-Item.field-0.0 (one here said) (InOrder behind one start c.args.statements.items)
    (c.in_err-add_item-in-Item.ensures.fault world allowed)
    (λ fault h. reach_fault behind one start c.args.statements.items here now.items.items _ more said fault (now.invariant.gathered world (c.add_item.ensures.grows world allowed)) at h) in
    rw (p.1, p.2) told

pub evaluate_all-loop-statement-preserved-in-Continue-branch-2 : goal.evaluate_all-loop-statement-preserved-in-Continue-branch-2
evaluate_all-loop-statement-preserved-in-Continue-branch-2 g t c =
    let now = c.loop-statement in
    let st = c.in-Some.ensures.steps in
    let more = into_iter_items c.next.new.self in
    let start = defined_by c.args.macros.now in
    let here = defined_by now.macros in
    let next = defined_by c.add_item.new.macros in
    let said = statement.Item c.in-Item.item in
    let at : into_iter_items now.statement-iterator ≡ said ∷ more = st.0 ∙ ap (λ (s : Statement). s ∷ more) c.in-Item.is in
    let (front, added, defined, told) = c.in_ok-add_item-in-Item.ensures.added in
    record {
      left = one_fewer _ _ c.in-Some.statement (into_iter_len now.statement-iterator) (into_iter_len c.next.new.self) st.0 st.1 now.invariant.left;
      gathered = λ world allowed.
          let one = StatementItems world (IncludedItems world c.args.levels c.args.file.now) c.args.file.now in
          reach_more behind one start c.args.statements.items here next now.items.items _ front _ more said
          (now.invariant.gathered world (c.add_item.ensures.grows world allowed)) at (told world allowed) defined added;
      defined = behind_more start here next now.items.items _ front now.invariant.defined defined added;
      grows = λ world allowed. now.invariant.grows world (c.add_item.ensures.grows world allowed);
    }

pub evaluate_all-returns-in_err-add_item-in-Item-clause-grows : goal.evaluate_all-returns-in_err-add_item-in-Item-clause-grows
evaluate_all-returns-in_err-add_item-in-Item-clause-grows g t c = λ world allowed. c.loop-statement.invariant.grows world (c.add_item.ensures.grows world allowed)

pub evaluate_all-returns-in_err-defined-in-Definition-clause-items : goal.evaluate_all-returns-in_err-defined-in-Definition-clause-items
evaluate_all-returns-in_err-defined-in-Definition-clause-items g t c = λ world allowed.
    let now = c.loop-statement in
    let st = c.in-Some.ensures.steps in
    let more = into_iter_items c.next.new.self in
    let start = defined_by c.args.macros.now in
    let here = defined_by now.macros in
    let said = statement.Definition c.in-Definition.line in
    let at : into_iter_items now.statement-iterator ≡ said ∷ more = st.0 ∙ ap (λ (s : Statement). s ∷ more) c.in-Definition.is in
    let p = err_from_is_err_and c.from_residual-in_err-defined-in-Definition.result c.from_residual-in_err-defined-in-Definition.ensures.1 in
    let one = StatementItems world (IncludedItems world c.args.levels c.args.file.now) c.args.file.now in
    let gathered = now.invariant.gathered world (c.evaluate_definition.ensures.grows world allowed) in
    let told = fault_passed_on c.in_err-defined-in-Definition.field-0.0 (one here said) (InOrder behind one start c.args.statements.items)
    (c.in_err-defined-in-Definition.ensures.items world allowed)
    (λ fault h. reach_fault behind one start c.args.statements.items here now.items.items _ more said fault gathered at h) in
    rw (p.1, p.2) told

pub evaluate_all-returns-in_err-defined-in-Definition-clause-grows : goal.evaluate_all-returns-in_err-defined-in-Definition-clause-grows
evaluate_all-returns-in_err-defined-in-Definition-clause-grows g t c = λ world allowed. c.loop-statement.invariant.grows world (c.evaluate_definition.ensures.grows world allowed)

pub evaluate_all-loop-statement-preserved-in-Definition : goal.evaluate_all-loop-statement-preserved-in-Definition
evaluate_all-loop-statement-preserved-in-Definition g t c =
    let now = c.loop-statement in
    let st = c.in-Some.ensures.steps in
    let more = into_iter_items c.next.new.self in
    let start = defined_by c.args.macros.now in
    let here = defined_by now.macros in
    let next = defined_by c.evaluate_definition.new.macros in
    let said = statement.Definition c.in-Definition.line in
    let at : into_iter_items now.statement-iterator ≡ said ∷ more = st.0 ∙ ap (λ (s : Statement). s ∷ more) c.in-Definition.is in
    let front = c.in_ok-defined-in-Definition.defined.items in
    record {
      left = one_fewer _ _ c.in-Some.statement (into_iter_len now.statement-iterator) (into_iter_len c.next.new.self) st.0 st.1 now.invariant.left;
      gathered = λ world allowed.
          let one = StatementItems world (IncludedItems world c.args.levels c.args.file.now) c.args.file.now in
          reach_more behind one start c.args.statements.items here next now.items.items _ front _ more said
          (now.invariant.gathered world (c.evaluate_definition.ensures.grows world allowed)) at
          (c.in_ok-defined-in-Definition.ensures.items world allowed) c.in_ok-defined-in-Definition.ensures.defined c.in_ok-append-in-Definition.ensures.items;
      defined = behind_more start here next now.items.items _ front now.invariant.defined c.in_ok-defined-in-Definition.ensures.defined c.in_ok-append-in-Definition.ensures.items;
      grows = λ world allowed. now.invariant.grows world (c.evaluate_definition.ensures.grows world allowed);
    }

pub evaluate_all-returns-in_err-included-in-Include-clause-items : goal.evaluate_all-returns-in_err-included-in-Include-clause-items
evaluate_all-returns-in_err-included-in-Include-clause-items g t c = λ world allowed.
    let now = c.loop-statement in
    let st = c.in-Some.ensures.steps in
    let more = into_iter_items c.next.new.self in
    let start = defined_by c.args.macros.now in
    let here = defined_by now.macros in
    let said = statement.Include c.in-Include.include in
    let at : into_iter_items now.statement-iterator ≡ said ∷ more = st.0 ∙ ap (λ (s : Statement). s ∷ more) c.in-Include.is in
    let p = err_from_is_err_and c.from_residual-in_err-included-in-Include.result c.from_residual-in_err-included-in-Include.ensures.1 in
    let one = StatementItems world (IncludedItems world c.args.levels c.args.file.now) c.args.file.now in
    let gathered = now.invariant.gathered world (c.evaluate_line.ensures.grows world allowed) in
    let told = fault_passed_on c.in_err-included-in-Include.field-0.0 (one here said) (InOrder behind one start c.args.statements.items)
    (c.in_err-included-in-Include.ensures.items world allowed)
    (λ fault h. reach_fault behind one start c.args.statements.items here now.items.items _ more said fault gathered at h) in
    rw (p.1, p.2) told

pub evaluate_all-returns-in_err-included-in-Include-clause-grows : goal.evaluate_all-returns-in_err-included-in-Include-clause-grows
evaluate_all-returns-in_err-included-in-Include-clause-grows g t c = λ world allowed. c.loop-statement.invariant.grows world (c.evaluate_line.ensures.grows world allowed)

pub evaluate_all-loop-statement-preserved : goal.evaluate_all-loop-statement-preserved
evaluate_all-loop-statement-preserved g t c =
    let now = c.loop-statement in
    let st = c.in-Some.ensures.steps in
    let more = into_iter_items c.next.new.self in
    let start = defined_by c.args.macros.now in
    let here = defined_by now.macros in
    let next = defined_by c.evaluate_line.new.macros in
    let said = statement.Include c.in-Include.include in
    let at : into_iter_items now.statement-iterator ≡ said ∷ more = st.0 ∙ ap (λ (s : Statement). s ∷ more) c.in-Include.is in
    let front = c.in_ok-included-in-Include.included.items in
    record {
      left = one_fewer _ _ c.in-Some.statement (into_iter_len now.statement-iterator) (into_iter_len c.next.new.self) st.0 st.1 now.invariant.left;
      gathered = λ world allowed.
          let one = StatementItems world (IncludedItems world c.args.levels c.args.file.now) c.args.file.now in
          reach_more behind one start c.args.statements.items here next now.items.items _ front _ more said
          (now.invariant.gathered world (c.evaluate_line.ensures.grows world allowed)) at
          (c.in_ok-included-in-Include.ensures.items world allowed) c.in_ok-included-in-Include.ensures.defined c.in_ok-append-in-Include.ensures.items;
      defined = behind_more start here next now.items.items _ front now.invariant.defined c.in_ok-included-in-Include.ensures.defined c.in_ok-append-in-Include.ensures.items;
      grows = λ world allowed. now.invariant.grows world (c.evaluate_line.ensures.grows world allowed);
    }

pub evaluate_all-returns-in-Refused-clause-items : goal.evaluate_all-returns-in-Refused-clause-items
evaluate_all-returns-in-Refused-clause-items g t c = λ world allowed.
    let now = c.loop-statement in
    let more = into_iter_items c.next.new.self in
    let said = statement.Refused c.in-Refused.refusal in
    let at : into_iter_items now.statement-iterator ≡ said ∷ more = c.in-Some.ensures.steps.0 ∙ ap (λ (s : Statement). s ∷ more) c.in-Refused.is in
    reach_fault behind (StatementItems world (IncludedItems world c.args.levels c.args.file.now) c.args.file.now) (defined_by c.args.macros.now) c.args.statements.items (defined_by now.macros) now.items.items _ more
    said c.in-Refused.refusal (now.invariant.gathered world allowed) at refl

pub evaluate_all-returns-clause-items : goal.evaluate_all-returns-clause-items
evaluate_all-returns-clause-items g t c = λ world allowed.
    let now = c.loop-statement in
    let none = nothing_left (into_iter_items now.statement-iterator) (sym now.invariant.left ∙ (c.in-None.ensures.steps).0) in
    reach_end behind (StatementItems world (IncludedItems world c.args.levels c.args.file.now) c.args.file.now) (defined_by c.args.macros.now) c.args.statements.items (defined_by now.macros) now.items.items _ (now.invariant.gathered world allowed) none
