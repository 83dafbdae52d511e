use Rattle.std.proofs.Common.{◌∙◌, ℕ, List, [], ◌∷◌, ◌++◌, get_or, Bor, ap, sym, arith}
use Rattle.mk_macros.proofs.WordLemmas.{joined_next, joined_start}
use Rattle.mk_macros.proofs.dynamic.joined.Goals as goal
use Rattle.mk_macros.proofs.dynamic.joined.Goals.{then-i-gt0+in_ok-push, else-i-gt0}

pub loop-i-preserved : goal.loop-i-preserved
loop-i-preserved c =
    let none : Bor (List ℕ) = record { ref_ptr = (0, 0); now = [] } in
    let word : List ℕ = (get_or c.args.words.now c.loop-i.i none).now in
    elim c.if-i-gt0.branch [
      | then-i-gt0+in_ok-push w ↦
          c.in_ok-extend_from_slice.ensures.items
          ∙ ap (λ t. t ++ word) (ap (λ t. t.items) w.text-is ∙ w.in_ok-push.ensures.items ∙ ap (λ t. t ++ 32 ∷ []) c.loop-i.invariant)
          ∙ sym (joined_next (λ word. word.now) c.args.words.now c.loop-i.i none (omega arith) (omega arith))
      | else-i-gt0 w ↦
          c.in_ok-extend_from_slice.ensures.items
          ∙ ap (λ t. t ++ word) (ap (λ t. t.items) w.text-is ∙ c.loop-i.invariant)
          ∙ sym (joined_start (λ word. word.now) c.args.words.now c.loop-i.i none (omega arith) (omega arith))
    ]
