use Rattle.std.proofs.Common.{◌≡◌, ◌∙◌, ◌+◌, ◌-◌, ◌∷◌, length, take, drop, sym, ap, subst, arith}
use Rattle.std.proofs.lemmas.List.{take_all, length-drop}
use Rattle.mk_pieces.specs.Brackets.{parted}
use Rattle.mk_pieces.proofs.BracketLemmas.{IsParted, is_cut}
use Rattle.mk_pieces.proofs.arguments.first_argument.Goals as goal

pub returns-in-None : goal.returns-in-None
returns-in-None c =
    let o = c.args.brackets.opening in
    let k = c.args.brackets.close in
    subst (λ f. IsParted o k c.args.most 0 c.args.text.now f) c.in-None.is (is_cut o k c.args.most c.args.text.now c.first_comma.result c.first_comma.ensures.value)

pub returns-in-Some : goal.returns-in-Some
returns-in-Some c =
    let o = c.args.brackets.opening in
    let k = c.args.brackets.close in
    let text = c.args.text.now in
    let end = c.in-Some.end in
    let rest : take (length text - (end + 1)) (drop (end + 1) text) ≡ drop (end + 1) text = take_all _ _ (let s = length-drop (end + 1) text in omega (arith, s)) in
    subst (λ f. IsParted o k c.args.most 0 text f) c.in-Some.is (is_cut o k c.args.most text c.first_comma.result c.first_comma.ensures.value)
    ∙ ap (λ r. take end text ∷ parted o k (c.args.most - 1) 0 r) (sym rest)
