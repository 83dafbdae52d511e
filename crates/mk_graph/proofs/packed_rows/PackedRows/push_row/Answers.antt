use Rattle.std.proofs.Common.{◌≡◌, ◌++◌, length, ap, ◌∙◌, [], ◌∷◌, List, ℕ, arith, length-append}
use Rattle.byte_strings.proofs.PieceLemmas.{pieces-push, AreEnds-push}
use Rattle.mk_graph.proofs.packed_rows.PackedRows.push_row.Goals as goal

pub invariant_of-self-2 : goal.invariant_of-self-2
invariant_of-self-2 c =
    let old : List ℕ = c.self.inside.numbers.items in
    let ends : List ℕ = c.self.inside.ends.items in
    let numbers : c.append.new.numbers.items ≡ old ++ c.args.row.now = c.in_ok-append.ensures.ok in
    let size : c.in_ok-end.end ≡ length (old ++ c.args.row.now) = omega (arith, c.in_ok-end.ensures, length-append old c.args.row.now) in
    let pushed : c.push_reserved.new.self.items ≡ ends ++ c.in_ok-end.end ∷ [] = c.push_reserved.ensures.items ∙ ap (λ (xs : List ℕ). xs ++ c.in_ok-end.end ∷ []) c.make_room.ensures.items in
    rw (numbers, pushed) (AreEnds-push old c.args.row.now c.in_ok-end.end 0 ends c.self.invariant size)

pub returns-clause-ok : goal.returns-clause-ok
returns-clause-ok c =
    let old : List ℕ = c.self.inside.numbers.items in
    let ends : List ℕ = c.self.inside.ends.items in
    let numbers : c.append.new.numbers.items ≡ old ++ c.args.row.now = c.in_ok-append.ensures.ok in
    let size : c.in_ok-end.end ≡ length (old ++ c.args.row.now) = omega (arith, c.in_ok-end.ensures, length-append old c.args.row.now) in
    let pushed : c.push_reserved.new.self.items ≡ ends ++ c.in_ok-end.end ∷ [] = c.push_reserved.ensures.items ∙ ap (λ (xs : List ℕ). xs ++ c.in_ok-end.end ∷ []) c.make_room.ensures.items in
    rw (numbers, pushed, ← c.self.view_is) (pieces-push old c.args.row.now c.in_ok-end.end 0 ends c.self.invariant size)
