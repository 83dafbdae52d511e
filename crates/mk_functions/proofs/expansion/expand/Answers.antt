use Rattle.std.proofs.Common.{subst}
use Rattle.std.proofs.lemmas.Result.{err_from_is_err_and}
use Rattle.mk_functions.specs.Waiting.{IsNext}
use Rattle.mk_functions.proofs.WaitingLemmas as lemma
use Rattle.mk_functions.proofs.expansion.expand.Goals as goal

pub loop-left-init : goal.loop-left-init
loop-left-init g c = record {
  leads = λ w ok. rw (c.new-callers.ensures.items, c.new.ensures.items) (lemma.started w (g.V.Definitions.variables c.args.variables.now) c.args.text.now);
  narrows = λ w ok. ok;
}

pub returns-in_err-made-clause-narrows : goal.returns-in_err-made-clause-narrows
returns-in_err-made-clause-narrows g c = λ w ok. c.loop-left.invariant.narrows w (c.in_err-made.ensures.narrows w ok)

pub returns-in-Done-clause-value : goal.returns-in-Done-clause-value
returns-in-Done-clause-value g c = λ w ok.
    let v = g.V.Definitions.variables c.args.variables.now in
    subst (λ n. IsNext w v c.args.text.now c.advance.new.callers.items n) c.in-Done.is
    (c.in_ok-made.ensures.next w ok c.args.text.now (c.loop-left.invariant.leads w (c.in_ok-made.ensures.narrows w ok)))

pub returns-in-Done-clause-narrows : goal.returns-in-Done-clause-narrows
returns-in-Done-clause-narrows g c = λ w ok. c.loop-left.invariant.narrows w (c.in_ok-made.ensures.narrows w ok)

pub returns-in_err-current-in-Step-clause-fault : goal.returns-in_err-current-in-Step-clause-fault
returns-in_err-current-in-Step-clause-fault g c = λ w ok.
    let v = g.V.Definitions.variables c.args.variables.now in
    let from = subst (λ n. IsNext w v c.args.text.now c.advance.new.callers.items n) c.in-Step.is
    (c.in_ok-made.ensures.next w ok c.args.text.now (c.loop-left.invariant.leads w (c.in_ok-made.ensures.narrows w ok))) in
    let told = err_from_is_err_and c.from_residual-in_err-current-in-Step.result c.from_residual-in_err-current-in-Step.ensures.1 in
    rw (told.1, told.2) (c.in_err-current-in-Step.ensures.err w v c.args.text.now from)

pub returns-in_err-current-in-Step-clause-narrows : goal.returns-in_err-current-in-Step-clause-narrows
returns-in_err-current-in-Step-clause-narrows g c = λ w ok. c.loop-left.invariant.narrows w (c.in_ok-made.ensures.narrows w ok)

pub loop-left-preserved : goal.loop-left-preserved
loop-left-preserved g c = record {
  leads = λ w ok.
      let v = g.V.Definitions.variables c.args.variables.now in
      let from = subst (λ n. IsNext w v c.args.text.now c.advance.new.callers.items n) c.in-Step.is
      (c.in_ok-made.ensures.next w ok c.args.text.now (c.loop-left.invariant.leads w (c.in_ok-made.ensures.narrows w ok))) in
      c.in_ok-current-in-Step.ensures.ok w v c.args.text.now from;
  narrows = λ w ok. c.loop-left.invariant.narrows w (c.in_ok-made.ensures.narrows w ok);
}

pub returns-clause-narrows : goal.returns-clause-narrows
returns-clause-narrows g c = λ w ok. c.loop-left.invariant.narrows w ok
