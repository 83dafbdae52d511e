-- The rows of what nodes aren't made without, by what was found of each name.
use Rattle.std.specs.Prelude.{◌≡◌, ℕ, Bool, true, List, length, map, filter, nat_lt, is_some, option_map, unwrap_or, Some, slice_get}
use Rattle.std.specs.List.{list_all}
use Rattle.mk_graph.specs.Edges.{row}
use Rattle.mk_names.specs.Names.{has_name, name_at}
use Rattle.mk_edges.specs.Known.{listed_in}
use Rattle.mk_nodes.specs.declared.graph.Node.{Node}

-- there are order-only prerequisites beside the hard ones
abbrev pub has_others : Node → Bool
has_others known = is_some known.rare.required

-- the names that are listed of a node and have a number, or those of this row where none are listed
abbrev pub names_in_row : (names : List (List ℕ)) → Node → (hard : List ℕ) → List (List ℕ)
names_in_row names known hard = unwrap_or (option_map (filter (has_name names)) (listed_in known)) (map (name_at names) hard)

-- the row holds, by number, the names that are listed of node n, or the hard prerequisites
pub record IsRequiredRow (names : List (List ℕ)) (hard : List (List ℕ)) (known : List Node) (n : ℕ) (r : List ℕ) : Type 0 where
  pub names_are : (k : Node) → slice_get known n ≡ Some k → map (name_at names) r ≡ names_in_row names k (row hard n)
  pub below : list_all (λ m. nat_lt m (length names)) r ≡ true
