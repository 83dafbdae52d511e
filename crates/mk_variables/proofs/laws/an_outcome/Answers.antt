use Rattle.std.proofs.Common.{ℕ, List, map}
use Rattle.mk_variables.specs.Table.{Entry, table_of, variables_in}
use Rattle.mk_variables.proofs.LawLemmas.{takes_some, is_listed}
use Rattle.mk_variables.proofs.laws.an_outcome.Goals as goal

pub returns : goal.returns
returns c = λ w listed said lines.
    takes_some w (table_of listed)
    (c.an_outcome.ensures w (variables_in (table_of listed)) (map (λ (x : List ℕ × Entry). x.0) listed.entries) (λ name v is recursive. is_listed listed.entries name v is))
    said lines
