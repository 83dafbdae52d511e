use Rattle.std.proofs.Common.{◌≡◌, ◌∙◌, ◌-◌, length, take, drop, sym, ap, arith}
use Rattle.std.proofs.lemmas.List.{take_all, length-drop, length-take}
use Rattle.mk_words.specs.Words.{behind_spaces}
use Rattle.mk_words.proofs.WordLemmas.{length-behind_spaces}
use Rattle.mk_pieces.specs.Brackets.{closing}
use Rattle.mk_pieces.specs.Piece.{call_at, called_or_named, bracketed_at}
use Rattle.mk_pieces.proofs.piece.bracketed.Goals as goal

pub returns-in_default-clause-front : goal.returns-in_default-clause-front
returns-in_default-clause-front c =
    let o = c.args.brackets.opening in
    let k = c.args.brackets.close in
    let text = c.args.text.now in
    c.reference.ensures.front ∙ ap (λ p. bracketed_at o k text p) (sym c.in_default.is ∙ c.first_space.ensures.value)

pub returns-in-None-clause-front : goal.returns-in-None-clause-front
returns-in-None-clause-front c =
    let o = c.args.brackets.opening in
    let k = c.args.brackets.close in
    let text = c.args.text.now in
    c.reference-in-None.ensures.front
    ∙ ap (λ f. called_or_named o k text (behind_spaces (drop c.in-Some.space text)) f) (sym c.in-None.is ∙ c.function_named.ensures)
    ∙ ap (λ p. bracketed_at o k text p) (sym c.in-Some.is ∙ c.first_space.ensures.value)

pub returns-in-Some-function_named-clause-front : goal.returns-in-Some-function_named-clause-front
returns-in-Some-function_named-clause-front c =
    let o = c.args.brackets.opening in
    let k = c.args.brackets.close in
    let text = c.args.text.now in
    let space = c.in-Some.space in
    let rest : take (length text - space) (drop space text) ≡ drop space text = take_all _ _ (let s = length-drop space text in omega (arith, s)) in
    c.called.ensures.front
    ∙ ap (λ b. call_at o k c.in-Some-function_named.function b (closing o k b)) (c.behind_spaces.ensures ∙ ap behind_spaces rest)
    ∙ ap (λ f. called_or_named o k text (behind_spaces (drop space text)) f) (sym c.in-Some-function_named.is ∙ c.function_named.ensures)
    ∙ ap (λ p. bracketed_at o k text p) (sym c.in-Some.is ∙ c.first_space.ensures.value)

pub returns-in-Some-function_named-clause-shorter : goal.returns-in-Some-function_named-clause-shorter
returns-in-Some-function_named-clause-shorter c =
    let text = c.args.text.now in
    let space = c.in-Some.space in
    let a = length-behind_spaces (take (length text - space) (drop space text)) in
    let b = length-take (length text - space) (drop space text) in
    let d = length-drop space text in
    let e = ap length c.behind_spaces.ensures in
    let f = c.called.ensures.shorter in omega (arith, a, b, d, e, f)
