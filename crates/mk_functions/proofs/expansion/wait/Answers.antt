use Rattle.std.proofs.Common.{◌≡◌, ◌∙◌, true, false, ◌∷◌, sym, ap, subst}
use Rattle.mk_functions.specs.Scope.{is_too_deep}
use Rattle.mk_functions.specs.Outcome.{fails, too_deep}
use Rattle.mk_functions.specs.Expansion.{ExpandsTo}
use Rattle.mk_functions.specs.Shown.{entry_of, state_of}
use Rattle.mk_functions.specs.Waiting.{Waiting, site_at, stack_of, Leads}
use Rattle.mk_functions.proofs.WaitingLemmas as lemma
use Rattle.mk_functions.proofs.expansion.wait.Goals as goal

pub returns-then-is_deep-clause-err : goal.returns-then-is_deep-clause-err
returns-then-is_deep-clause-err c = λ w v whole from.
    let cs = stack_of c.args.callers.now.items in
    let entry = entry_of c.args.entry in
    let is : is_too_deep entry (site_at cs) ≡ true =
    sym (c.is_too_deep-is_deep.ensures ∙ ap (λ cs. is_too_deep entry (site_at (stack_of cs))) c.deref.ensures.value) ∙ c.if-is_deep.true in
    subst (λ n. ExpandsTo w v whole (fails (too_deep n))) (sym c.in_ok-name.ensures)
    (lemma.deep w v whole cs c.args.current.made.items c.args.current.rest.now entry c.args.text.now (state_of c.args.state) from is)

pub returns-clause-ok : goal.returns-clause-ok
returns-clause-ok c = λ w v whole from.
    let cs = stack_of c.args.callers.now.items in
    let entry = entry_of c.args.entry in
    let made = c.args.current.made.items in
    let rest = c.args.current.rest.now in
    let is : is_too_deep entry (site_at cs) ≡ false =
    sym (c.is_too_deep-is_deep.ensures ∙ ap (λ cs. is_too_deep entry (site_at (stack_of cs))) c.deref.ensures.value) ∙ c.if-is_deep.false in
    let caller : Waiting = record { entry = entry; state = state_of c.args.state; made = made; rest = rest } in
    let stack : stack_of c.push.new.self.items ≡ caller ∷ cs = ap stack_of c.in_ok-push.ensures.items ∙ lemma.stack_of-push c.args.callers.now.items _ in
    subst (λ stack_now. Leads w v whole stack_now c.new.result.items c.args.text.now) (sym stack)
    (subst (λ m. Leads w v whole (caller ∷ cs) m c.args.text.now) (sym c.new.ensures.items)
    (lemma.waits w v whole cs made rest entry c.args.text.now (state_of c.args.state) from is))
