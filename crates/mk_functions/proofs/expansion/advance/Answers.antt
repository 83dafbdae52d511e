use Rattle.std.proofs.Common.{◌≡◌, ◌∙◌, [], sym, ap, subst, arith}
use Rattle.std.proofs.lemmas.List.{nil_from_length}
use Rattle.mk_pieces.specs.Shown.{piece_of}
use Rattle.mk_functions.specs.Steps.{piece_step, resumed}
use Rattle.mk_functions.specs.Shown.{state_of}
use Rattle.mk_functions.specs.Waiting.{site_at, waiting_of, stack_of, Leads, LeadsFrom}
use Rattle.mk_functions.proofs.WaitingLemmas as lemma
use Rattle.mk_functions.proofs.expansion.advance.Goals as goal

pub returns-in-Some-clause-next : goal.returns-in-Some-clause-next
returns-in-Some-clause-next g c = λ w ok whole leads.
    let v = g.V.Definitions.variables c.args.variables.now in
    let cs = c.args.callers.now.items in
    let made = c.args.current.made.items in
    let rest = c.in-Some.rest.now in
    subst (λ s. LeadsFrom w v whole (stack_of cs) made rest s)
    (sym (c.in_ok-step.ensures.step w ok ∙ ap (λ callers. piece_step w v (site_at (stack_of callers)) (piece_of c.in-Some.piece)) c.deref.ensures.value))
    (lemma.from_look w v whole (stack_of cs) made c.args.current.rest.now (piece_of c.in-Some.piece) rest (sym c.in-Some.ensures.front) leads)

pub returns-in_default-pop-clause-next : goal.returns-in_default-pop-clause-next
returns-in_default-pop-clause-next g c = λ w ok whole leads.
    let v = g.V.Definitions.variables c.args.variables.now in
    let none : c.args.callers.now.items ≡ [] = nil_from_length c.args.callers.now.items (omega (arith, c.args.callers.now.ok.0, c.in_default-pop.ensures.cases.0)) in
    lemma.ended w v whole c.args.current.made.items c.args.current.rest.now (sym c.in_default.ensures.front)
    (subst (λ cs. Leads w v whole (stack_of cs) c.args.current.made.items c.args.current.rest.now) none leads)

pub returns-clause-next : goal.returns-clause-next
returns-clause-next g c = λ w ok whole leads.
    let v = g.V.Definitions.variables c.args.variables.now in
    let left = c.pop.new.self.items in
    let caller = c.in-Some-pop.field-0 in
    let made = c.args.current.made.items in
    let stack = ap stack_of c.in-Some-pop.ensures.items ∙ lemma.stack_of-push left caller in
    subst (λ s. LeadsFrom w v whole (stack_of left) caller.made.items caller.rest.now s)
    (sym (c.in_ok-step-2.ensures.step w ok ∙ ap (λ callers. resumed w v (site_at (stack_of callers)) (state_of caller.state) made) c.deref-2.ensures.value))
    (lemma.from_pop w v whole (stack_of left) (waiting_of caller) made c.args.current.rest.now (sym c.in_default.ensures.front)
    (subst (λ cs. Leads w v whole cs made c.args.current.rest.now) stack leads))
