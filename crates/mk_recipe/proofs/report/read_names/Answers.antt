use Rattle.std.proofs.Common.{◌∙◌, ◌≡◌, [], ◌∷◌, map, ap, sym}
use Rattle.mk_short_names.specs.Short.{name_in}
use Rattle.mk_recipe.specs.Report.{names_in}
use Rattle.mk_recipe.proofs.AnswerLemmas.{so_far_more}
use Rattle.mk_recipe.proofs.report.read_names.Goals as goal

pub loop-word-preserved : goal.loop-word-preserved
loop-word-preserved c =
    let name = c.name_in.result.now in
    let left = map (name_in c.args.profile) c.next.new.self in
    let first : map (name_in c.args.profile) c.loop-word.word-iterator ≡ name ∷ left =
    ap (map (name_in c.args.profile)) c.in-Some.ensures.steps ∙ ap (λ n. n ∷ left) (sym c.name_in.ensures) in
    so_far_more (names_in c.args.profile c.args.text.now) (map (name_in c.args.profile) c.loop-word.word-iterator) (name ∷ []) left
    c.args.seen.now c.args.hidden.now c.loop-word.seen c.loop-word.hidden c.read_name.new.seen c.read_name.new.hidden c.loop-word.left_out c.in_ok-is_left_out.is_left_out
    first c.loop-word.invariant c.in_ok-is_left_out.ensures.ok
