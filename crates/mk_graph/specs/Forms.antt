-- Rows in either of two forms. Own.
use Rattle.std.specs.Prelude.{ℕ, List}
use Rattle.mk_graph.specs.declared.edges.Form.{Form}
use Rattle.mk_graph.specs.declared.edges.Form.TheVariants.{Packed, Shared}

-- the rows, in whatever form
abbrev pub rows_of : Form → List (List ℕ)
rows_of (Packed rows) = rows
rows_of (Shared rows) = rows
