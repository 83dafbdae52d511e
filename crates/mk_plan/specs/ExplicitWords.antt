-- What `$<` and `$*` stand for in a recipe. POSIX make leaves open what they are in one of the target's own: there the strict profile
-- has nothing, and the wide one what GNU make has.
use Rattle.std.specs.Prelude.{ℕ, Bool, not, ◌&&◌, if◌then◌else◌, List, [], ◌∷◌, ◌++◌, map, flat_map, slice_index_or, Option, Some, None, is_some, option_and_then, option_to_list}
use Rattle.mk_graph.specs.Edges.{row}
use Rattle.mk_names.specs.Names.{name_at}
use Rattle.mk_macros.specs.Words.{without_end}
use Rattle.mk_profile.specs.Profile.{is_wide}
use Rattle.mk_rule_lines.specs.Explicit.{names_in}
use Rattle.mk_rule_lines.specs.Rules.{is_default_rule, suffixes_of}
use Rattle.mk_rule_lines.specs.declared.rule_line.RuleLine.{RuleLine}
use Rattle.mk_nodes.specs.declared.graph.Graph.{Graph}
use Rattle.mk_lines.specs.Text.{is_empty}
use Rattle.mk_seen.specs.Nodes.{node_at, source_of, stem_of}
use Rattle.mk_plan.specs.Parts.{language_of, is_part}
use Rattle.mk_plan.specs.Words.{implied_names}

-- the hard prerequisites of node n: the source, then those by name, each at its first mention
abbrev pub once_of : Graph → (n : ℕ) → List (List ℕ)
once_of graph n = map (name_at graph.names) (row graph.hard n)

-- the first of the names; nothing where there is none
abbrev pub first_of : List (List ℕ) → List ℕ
first_of names = slice_index_or names 0 []

-- an implicit rule makes node n
abbrev pub is_implicit : Graph → (n : ℕ) → Bool
is_implicit graph n = is_some (option_and_then (λ node. node.rare.stem) (node_at graph n))

-- its recipe is its own, and in the wide profile
abbrev pub has_words : Graph → (n : ℕ) → Bool
has_words graph n = is_wide (language_of graph) && not (is_implicit graph n)

-- what `$<` is the first of in the recipe of a line, whose prerequisites they are: behind these, in a line without `::`, all of the
-- node's stand (GNU make)
abbrev pub first_among : Graph → (n : ℕ) → RuleLine → List (List ℕ)
first_among graph n l = if is_part (language_of graph) l then names_in l else names_in l ++ once_of graph n

abbrev pub first_prerequisite : Graph → (n : ℕ) → RuleLine → List ℕ
first_prerequisite graph n l = first_of (first_among graph n l)

-- no implicit rule gives it a source, in the wide profile
abbrev pub lacks_source : Graph → (n : ℕ) → Bool
lacks_source graph n = is_wide (language_of graph) && is_empty (implied_names graph n)

-- what `$<` stands for in its recipe, of which this line has a part: in that of `.DEFAULT` the target (POSIX make, "Internal Macros")
abbrev pub source_word : Graph → (n : ℕ) → RuleLine → List ℕ
source_word graph n l =
    if is_default_rule l.special then name_at graph.names n
    else (if lacks_source graph n then first_prerequisite graph n l else source_of graph n)

abbrev pub unless_empty : List ℕ → Option (List ℕ)
unless_empty [] = None
unless_empty (b ∷ bs) = Some (b ∷ bs)

-- what stands before a suffix that a name ends in: at least one byte
abbrev pub without_suffix : (name suffix : List ℕ) → Option (List ℕ)
without_suffix name suffix = option_and_then unless_empty (without_end suffix name)

-- what the first suffix leaves that stands behind something in the name; nothing where none does (GNU make and bmake)
abbrev pub stem_left : (suffixes : List (List ℕ)) → (name : List ℕ) → List ℕ
stem_left suffixes name = first_of (flat_map (λ suffix. option_to_list (without_suffix name suffix)) suffixes)

-- what `$*` stands for in its recipe
abbrev pub stem_word : Graph → (n : ℕ) → List ℕ
stem_word graph n = if has_words graph n then stem_left (suffixes_of graph.lines.items) (name_at graph.names n) else stem_of graph n
