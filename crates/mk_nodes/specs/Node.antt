-- The numbers of names, and the parts of a node's row of hard prerequisites.
use Rattle.std.specs.Option.{option_map_or}
use Rattle.std.specs.Prelude.{◌≡◌, ◌<◌, ℕ, ◌==◌, if◌then◌else◌, length, take, Bool, List, [], ◌∷◌, Option, Some, None}
use Rattle.mk_names.specs.Names.{name_at}
use Rattle.mk_nodes.specs.Hidden.{marks_kept, spread}
use Rattle.mk_nodes.specs.declared.graph.Node.{Node}

-- two nodes have no name in common
abbrev pub EachHasOneNumber : (names : List (List ℕ)) → Type 0
EachHasOneNumber names = (n m : ℕ) → n < length names → m < length names → name_at names n ≡ name_at names m → n ≡ m

abbrev pub first_number : List ℕ → Option ℕ
first_number [] = None
first_number (n ∷ ns) = Some n

abbrev pub later_numbers : List ℕ → List ℕ
later_numbers [] = []
later_numbers (n ∷ ns) = ns

abbrev pub source_by : (implied : ℕ) → (hard : List ℕ) → Option ℕ
source_by implied hard = if implied == 0 then None else first_number hard

abbrev pub explicit_by : (implied : ℕ) → (hard : List ℕ) → List ℕ
explicit_by implied hard = if implied == 0 then hard else later_numbers hard

-- the source of a node: the first of its hard prerequisites, where an implicit rule gives it some
abbrev pub source_in : Option Node → (hard : List ℕ) → Option ℕ
source_in None hard = None
source_in (Some node) hard = source_by node.rare.implied hard

-- the prerequisites of a node by name: the hard ones without the source
abbrev pub explicit_in : Option Node → (hard : List ℕ) → List ℕ
explicit_in None hard = hard
explicit_in (Some node) hard = explicit_by node.rare.implied hard

-- the prerequisites that an implicit rule gives a node: the first so many of the hard ones
abbrev pub implied_in : Option Node → (hard : List ℕ) → List ℕ
implied_in node hard = take (option_map_or (λ n. n.rare.implied) node 0) hard

-- of each hidden prerequisite of a node that isn't a hard one, whether it is a node
abbrev pub hidden_marks : Node → List Bool
hidden_marks node = marks_kept node.hidden node.rare.marks

-- the hidden prerequisites of a node with this soft row that aren't hard ones, in the order in which they were recorded: for each that
-- is a node its number, in turn from the row, and none where it is gone
abbrev pub hidden_by : Node → (soft : List ℕ) → List (Option ℕ)
hidden_by node soft = spread (hidden_marks node) soft

abbrev pub hidden_in : Option Node → (soft : List ℕ) → List (Option ℕ)
hidden_in node soft = option_map_or (λ n. hidden_by n soft) node []
