use Rattle.std.proofs.Common.{◌≡◌, ℕ, List, length, sym, ap, ◌∙◌, arith}
use Rattle.std.proofs.lemmas.Bool.Decides.{nat_tests}
use Rattle.mk_graph.specs.Edges.{row}
use Rattle.mk_graph.proofs.JoinLemmas.{row_blank}
use Rattle.mk_graph.proofs.packed_rows.PackedRows.is_blank.Goals as goal

pub returns : goal.returns
returns c = λ is n.
    let numbers : List ℕ = c.self.inside.numbers.items in
    let none : length numbers ≡ 0 = grind (arith, nat_tests, is) in
    ap (λ g. row g n) (sym c.self.view_is) ∙ row_blank numbers 0 c.self.inside.ends.items n none
