use Rattle.std.proofs.Common.{◌≡◌, IfOk, sym, subst}
use Rattle.mk_pieces.specs.declared.function.Function.TheVariants as function
use Rattle.mk_functions.specs.Variables.{Variables}
use Rattle.mk_functions.specs.Scope.{variable_in}
use Rattle.mk_functions.specs.Values.{Answers, applied}
use Rattle.mk_functions.specs.Steps.{answers}
use Rattle.mk_functions.specs.Shown.{texts, step_of}
use Rattle.mk_functions.specs.Waiting.{site_at, stack_of}
use Rattle.mk_functions.proofs.ListLemmas.{ok-map}
use Rattle.mk_functions.proofs.applied.applied.Goals as goal

pub returns-in-OfWords-clause-step : goal.returns-in-OfWords-clause-step
returns-in-OfWords-clause-step g c = λ w ok.
    let vs = variable_in (g.V.Definitions.variables c.args.variables.now) (site_at (stack_of c.args.callers.now)).scope in
    let ts = texts c.args.values.now in
    subst (λ f. IfOk c.apply_of_words.result (λ s. step_of s ≡ answers (applied w vs f ts))) (sym c.in-OfWords.is)
    (ok-map (λ s. (o : Answers) (variables : Variables) → step_of s ≡ answers (applied o variables (function.OfWords c.in-OfWords.f) ts)) (λ s. step_of s ≡ answers (applied w vs (function.OfWords c.in-OfWords.f) ts)) c.apply_of_words.result (λ s h. h w vs) c.apply_of_words.ensures)

pub returns-in-OfVariable-clause-step : goal.returns-in-OfVariable-clause-step
returns-in-OfVariable-clause-step g c = λ w ok.
    let vs = variable_in (g.V.Definitions.variables c.args.variables.now) (site_at (stack_of c.args.callers.now)).scope in
    let ts = texts c.args.values.now in
    subst (λ f. IfOk c.apply_of_variable.result (λ s. step_of s ≡ answers (applied w vs f ts))) (sym c.in-OfVariable.is)
    (ok-map (λ s. (o : Answers) → step_of s ≡ answers (applied o vs (function.OfVariable c.in-OfVariable.f) ts)) (λ s. step_of s ≡ answers (applied w vs (function.OfVariable c.in-OfVariable.f) ts)) c.apply_of_variable.result (λ s h. h w) c.apply_of_variable.ensures)

pub returns-in-Asks-clause-step : goal.returns-in-Asks-clause-step
returns-in-Asks-clause-step g c = λ w ok.
    let vs = variable_in (g.V.Definitions.variables c.args.variables.now) (site_at (stack_of c.args.callers.now)).scope in
    let ts = texts c.args.values.now in
    subst (λ f. IfOk c.ask.result (λ s. step_of s ≡ answers (applied w vs f ts))) (sym c.in-Asks.is)
    (ok-map (λ s. (variables : Variables) → step_of s ≡ answers (applied w variables (function.Asks c.in-Asks.question) ts)) (λ s. step_of s ≡ answers (applied w vs (function.Asks c.in-Asks.question) ts)) c.ask.result (λ s h. h vs) (c.ask.ensures.step w ok))

pub returns-in-Says-clause-step : goal.returns-in-Says-clause-step
returns-in-Says-clause-step g c = λ w ok.
    let vs = variable_in (g.V.Definitions.variables c.args.variables.now) (site_at (stack_of c.args.callers.now)).scope in
    let ts = texts c.args.values.now in
    subst (λ f. IfOk c.say.result (λ s. step_of s ≡ answers (applied w vs f ts))) (sym c.in-Says.is)
    (ok-map (λ s. (o : Answers) (variables : Variables) → step_of s ≡ answers (applied o variables (function.Says c.in-Says.message) ts)) (λ s. step_of s ≡ answers (applied w vs (function.Says c.in-Says.message) ts)) c.say.result (λ s h. h w vs) c.say.ensures.step)

pub returns-in-Error-clause-step : goal.returns-in-Error-clause-step
returns-in-Error-clause-step g c = λ w ok.
    let vs = variable_in (g.V.Definitions.variables c.args.variables.now) (site_at (stack_of c.args.callers.now)).scope in
    let ts = texts c.args.values.now in
    subst (λ f. IfOk c.tell.result (λ s. step_of s ≡ answers (applied w vs f ts))) (sym c.in-Error.is)
    (ok-map (λ s. (o : Answers) (variables : Variables) → step_of s ≡ answers (applied o variables function.Error ts)) (λ s. step_of s ≡ answers (applied w vs function.Error ts)) c.tell.result (λ s h. h w vs) c.tell.ensures)

pub returns-in-OfTwo-clause-step : goal.returns-in-OfTwo-clause-step
returns-in-OfTwo-clause-step g c = λ w ok.
    let vs = variable_in (g.V.Definitions.variables c.args.variables.now) (site_at (stack_of c.args.callers.now)).scope in
    let ts = texts c.args.values.now in
    subst (λ f. IfOk c.apply_of_two.result (λ s. step_of s ≡ answers (applied w vs f ts))) (sym c.in-OfTwo.is)
    (ok-map (λ s. (o : Answers) (variables : Variables) → step_of s ≡ answers (applied o variables (function.OfTwo c.in-OfTwo.f) ts)) (λ s. step_of s ≡ answers (applied w vs (function.OfTwo c.in-OfTwo.f) ts)) c.apply_of_two.result (λ s h. h w vs) c.apply_of_two.ensures)

pub returns-in-OfThree-clause-step : goal.returns-in-OfThree-clause-step
returns-in-OfThree-clause-step g c = λ w ok.
    let vs = variable_in (g.V.Definitions.variables c.args.variables.now) (site_at (stack_of c.args.callers.now)).scope in
    let ts = texts c.args.values.now in
    subst (λ f. IfOk c.apply_of_three.result (λ s. step_of s ≡ answers (applied w vs f ts))) (sym c.in-OfThree.is)
    (ok-map (λ s. (o : Answers) (variables : Variables) → step_of s ≡ answers (applied o variables (function.OfThree c.in-OfThree.f) ts)) (λ s. step_of s ≡ answers (applied w vs (function.OfThree c.in-OfThree.f) ts)) c.apply_of_three.result (λ s h. h w vs) c.apply_of_three.ensures)
