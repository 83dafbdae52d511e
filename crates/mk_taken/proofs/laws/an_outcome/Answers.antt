use Rattle.std.proofs.Common.{ℕ, List, map}
use Rattle.mk_variables.specs.Table.{Entry, table_of, variables_in}
use Rattle.mk_variables.proofs.LawLemmas.{is_listed}
use Rattle.mk_taken.proofs.LawLemmas.{reads_some}
use Rattle.mk_taken.proofs.laws.an_outcome.Goals as goal

pub returns : goal.returns
returns c = λ w left listed nest rule.
    reads_some w
    (λ l text. c.an_outcome.ensures w (variables_in (table_of l)) (map (λ (x : List ℕ × Entry). x.0) l.entries) (λ name v is recursive. is_listed l.entries name v is) text)
    (c.an_outcome-2.ensures w) left listed nest rule
