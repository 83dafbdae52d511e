use Rattle.std.proofs.Common.{◌≡◌, ◌∙◌, ℕ, ◌≤◌, ◌<◌, List, ◌++◌, length, IfOk, IfErr, refl, sym, ap, subst}
use Rattle.mk_functions.specs.Variables.{Variables}
use Rattle.mk_functions.specs.Values.{Answers}
use Rattle.mk_functions.specs.Outcome.{limit}
use Rattle.mk_functions.specs.Shown.{fault_of, step_of}
use Rattle.mk_functions.specs.Waiting.{Leads, LeadsFrom, LeadTo, IsStop, stack_of}
use Rattle.mk_functions.proofs.WaitingLemmas as lemma
use Rattle.mk_functions.proofs.expansion.take.Goals as goal

pub returns-then-not-fits-clause-err : goal.returns-then-not-fits-clause-err
returns-then-not-fits-clause-err c = λ w v whole from.
    let add = subst (λ s. LeadsFrom w v whole (stack_of c.args.callers.now.items) c.args.current.made.items c.args.current.rest.now (step_of s)) c.in-Adds.is from in
    let over : limit < length (c.args.current.made.items ++ c.in-Adds.bytes.items) = rw (sym c.deref.ensures.value, sym c.deref-in-Adds.ensures.value) (c.if-not-fits.ensures.over refl) in
    lemma.long w v whole (stack_of c.args.callers.now.items) c.args.current.made.items c.args.current.rest.now c.in-Adds.bytes.items add over

pub returns-in-Adds-clause-ok : goal.returns-in-Adds-clause-ok
returns-in-Adds-clause-ok c = λ w v whole from.
    let cs = stack_of c.args.callers.now.items in
    let before = c.args.current.made.items in
    let rest = c.args.current.rest.now in
    let bytes = c.in-Adds.bytes.items in
    let add = subst (λ s. LeadsFrom w v whole cs before rest (step_of s)) c.in-Adds.is from in
    let made : c.extend_from_slice.new.self.items ≡ before ++ bytes = c.in_ok-extend_from_slice-in-Adds.ensures.items ∙ ap (λ v. before ++ v) c.deref-in-Adds-2.ensures.value in
    let within : length (before ++ bytes) ≤ limit = rw (sym c.deref.ensures.value, sym c.deref-in-Adds.ensures.value) (c.if-not-fits.ensures.within refl) in
    subst (λ m. Leads w v whole cs m rest) (sym made) (lemma.adds w v whole cs before rest bytes add within)

pub returns-in-Fails-clause-err : goal.returns-in-Fails-clause-err
returns-in-Fails-clause-err c = λ w v whole from.
    let add = subst (λ s. LeadsFrom w v whole (stack_of c.args.callers.now.items) c.args.current.made.items c.args.current.rest.now (step_of s)) c.in-Fails.is from in
    lemma.fault w v whole (stack_of c.args.callers.now.items) c.args.current.made.items c.args.current.rest.now (fault_of c.in-Fails.fault) add

pub returns-clause-ok : goal.returns-clause-ok
returns-clause-ok c =
    subst (λ s. IfOk c.wait.result (λ now. (w : Answers) (v : Variables) (whole : List ℕ) →
    LeadsFrom w v whole (stack_of c.args.callers.now.items) c.args.current.made.items c.args.current.rest.now (step_of s) →
    LeadTo w v whole c.wait.new.callers.items now))
    (sym c.in-Asks.is) c.wait.ensures.ok

pub returns-clause-err : goal.returns-clause-err
returns-clause-err c =
    subst (λ s. IfErr c.wait.result (λ stop. (w : Answers) (v : Variables) (whole : List ℕ) →
    LeadsFrom w v whole (stack_of c.args.callers.now.items) c.args.current.made.items c.args.current.rest.now (step_of s) →
    IsStop w v whole stop))
    (sym c.in-Asks.is) c.wait.ensures.err
