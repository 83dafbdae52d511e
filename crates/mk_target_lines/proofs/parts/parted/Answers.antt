use Rattle.std.proofs.Common.{List, ℕ, [], Some, length, subst}
use Rattle.std.proofs.lemmas.Result.{err_from_is_err_and}
use Rattle.mk_target_lines.specs.Parts.{AtWord, Parts, stops, meets}
use Rattle.mk_target_lines.specs.Shown.{step_of, parted_of}
use Rattle.mk_target_lines.proofs.ComeLemmas.{no_value_map}
use Rattle.mk_target_lines.proofs.PartLemmas.{next, stopped}
use Rattle.mk_target_lines.proofs.parts.parted.Goals as goal

pub returns-in_err-take_word-clause-refused : goal.returns-in_err-take_word-clause-refused
returns-in_err-take_word-clause-refused g c = λ w ok.
    let v = g.V.Definitions.variables c.args.variables.now in
    let found : List ℕ × List ℕ = (c.in-Some.word.now, c.in-Some.behind.now) in
    let told = err_from_is_err_and c.from_residual.result c.from_residual.ensures.1 in
    rw (told.1, told.2)
    (no_value_map (λ fault. AtWord w v c.args.has_recipe c.loop-word.names.items (Some found) (stops (meets fault)))
    (λ fault. Parts w v c.args.has_recipe (length c.args.text.now) [] c.args.text.now (meets fault))
    (λ fault h. stopped w v c.args.has_recipe c.args.text.now c.loop-word.names.items c.loop-word.rest.now found (meets fault)
    (c.loop-word.invariant.leads w (c.in_err-take_word.ensures.narrows w ok)) c.in-Some.ensures.word c.in-Some.ensures.shorter h)
    c.in_err-take_word.field-0.0 (c.in_err-take_word.ensures.refused w ok))

pub loop-word-preserved : goal.loop-word-preserved
loop-word-preserved g c = record {
  leads = λ w ok.
      let v = g.V.Definitions.variables c.args.variables.now in
      let found : List ℕ × List ℕ = (c.in-Some.word.now, c.in-Some.behind.now) in
      next w v c.args.has_recipe c.args.text.now c.loop-word.names.items c.loop-word.rest.now found c.take_word.new.names.items
      (c.loop-word.invariant.leads w (c.in_ok-take_word.ensures.narrows w ok)) c.in-Some.ensures.word c.in-Some.ensures.shorter
      (subst (λ s. AtWord w v c.args.has_recipe c.loop-word.names.items (Some found) (step_of c.take_word.new.names.items c.in-Some.behind.now s)) c.in-GoesOn.is
      (c.in_ok-take_word.ensures.told w ok));
  narrows = λ w ok. c.loop-word.invariant.narrows w (c.in_ok-take_word.ensures.narrows w ok);
}

pub returns-in-Stops-clause-told : goal.returns-in-Stops-clause-told
returns-in-Stops-clause-told g c = λ w ok.
    let v = g.V.Definitions.variables c.args.variables.now in
    let found : List ℕ × List ℕ = (c.in-Some.word.now, c.in-Some.behind.now) in
    stopped w v c.args.has_recipe c.args.text.now c.loop-word.names.items c.loop-word.rest.now found (parted_of c.take_word.new.names.items c.in-Stops.line)
    (c.loop-word.invariant.leads w (c.in_ok-take_word.ensures.narrows w ok)) c.in-Some.ensures.word c.in-Some.ensures.shorter
    (subst (λ s. AtWord w v c.args.has_recipe c.loop-word.names.items (Some found) (step_of c.take_word.new.names.items c.in-Some.behind.now s)) c.in-Stops.is
    (c.in_ok-take_word.ensures.told w ok))
