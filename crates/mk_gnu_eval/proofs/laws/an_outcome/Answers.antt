use Rattle.std.proofs.Common.{ℕ, List, map, refl}
use Rattle.mk_variables.specs.Table.{Listed, Entry, table_of, variables_in}
use Rattle.mk_variables.proofs.LawLemmas.{is_listed}
use Rattle.mk_gnu_eval.proofs.LawLemmas.{reads_some}
use Rattle.mk_gnu_eval.proofs.laws.an_outcome.Goals as goal

abbrev names_in : Listed → List (List ℕ)
names_in l = map (λ (x : List ℕ × Entry). x.0) l.entries

pub returns : goal.returns
returns c = λ world levels file text listed items.
    reads_some world
    (λ l line. c.an_outcome.ensures world.answers (variables_in (table_of l)) (names_in l) (λ name v is recursive. is_listed l.entries name v is) line)
    (c.an_outcome-2.ensures world.answers)
    (λ l after line. c.an_outcome-3.ensures world.answers (variables_in (table_of l)) (names_in l) (λ name v is recursive. is_listed l.entries name v is) after line)
    levels file text (record { table = table_of listed; items = items }) (listed, refl)
