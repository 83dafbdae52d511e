-- The rule lines whose recipes make a node, one behind the other.
use Rattle.std.specs.Prelude.{ℕ, Bool, ◌&&◌, if◌then◌else◌, List, [], ◌∷◌, slice_get, Option, option_map, option_and_then}
use Rattle.mk_names.specs.Names.{name_at}
use Rattle.mk_macros.specs.Ranks.{defined_by}
use Rattle.mk_profile.specs.Profile.{is_wide}
use Rattle.mk_profile.specs.declared.profile.Profile.{Profile}
use Rattle.mk_reader.specs.declared.item.RecipeLine.{RecipeLine}
use Rattle.mk_makefile.specs.Doubles.{double_lines}
use Rattle.mk_rule_lines.specs.Rules.{told_file}
use Rattle.mk_rule_lines.specs.declared.rule_line.RuleLine.{RuleLine}
use Rattle.mk_nodes.specs.declared.graph.Graph.{Graph}
use Rattle.mk_seen.specs.Nodes.{node_at}

-- the language of the makefile
abbrev pub language_of : Graph → Profile
language_of graph = (defined_by graph.macros).language

-- the first line whose recipe makes node n
abbrev pub recipe_line : Graph → (n : ℕ) → Option RuleLine
recipe_line graph n = option_and_then (slice_get graph.lines.items) (option_and_then (λ node. node.recipe) (node_at graph n))

-- a rule line with `::` has a recipe of its own, beside those of other such lines: in the wide profile (GNU make manual, "Double-Colon
-- Rules")
abbrev pub is_part : Profile → RuleLine → Bool
is_part profile l = is_wide profile && l.is_double

-- the lines whose recipes make the name, where this one's does: all of its lines with `::`, or this one alone
abbrev pub parts_of : Profile → List RuleLine → (name : List ℕ) → RuleLine → List RuleLine
parts_of profile lines name l = if is_part profile l then double_lines lines name else l ∷ []

-- the lines whose recipes, one behind the other, are that of node n, if it has one
abbrev pub recipe_of : Graph → (n : ℕ) → Option (List RuleLine)
recipe_of graph n = option_map (parts_of (language_of graph) graph.lines.items (name_at graph.names n)) (recipe_line graph n)

-- the file that holds the first of these lines, as it is told
abbrev pub file_of : Graph → (n : ℕ) → Option (List ℕ)
file_of graph n = option_and_then (λ l. told_file l.profile l.file) (recipe_line graph n)

-- the lines of its recipe
abbrev pub first_lines : Graph → (n : ℕ) → Option (List RecipeLine)
first_lines graph n = option_map (λ l. l.recipe) (recipe_line graph n)

-- the file and the number of the line at this place of that recipe, where the file is told. Of lines behind it nothing is told
abbrev pub line_place : Graph → (n place : ℕ) → Option (List ℕ × ℕ)
line_place graph n place =
    option_and_then (λ file. option_map (λ raw. (file, raw.line)) (option_and_then (λ raws. slice_get raws place) (first_lines graph n))) (file_of graph n)
