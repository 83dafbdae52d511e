-- The hidden prerequisites of a name, taken in behind the hard ones.
use Rattle.std.specs.Prelude.{◌≡◌, ℕ, Bool, not, ◌||◌, ◌&&◌, if◌then◌else◌, List, [], ◌∷◌, ◌++◌, length, map, drop, filter, replicate, true, false, Option, Some, None, Vec, option_map, unwrap_or}
use Rattle.std.specs.Global.{Box, Global}
use Rattle.mk_names.specs.Names.{has_name, added, all_added}
use Rattle.mk_nodes.specs.Prerequisites.{IsTextAmong}
use Rattle.mk_rule_lines.specs.declared.fault.RuleFault.{RuleFault}
use Rattle.mk_rule_lines.specs.declared.fault.RuleFault.TheVariants as fault

-- of each of so many hidden prerequisites, whether it is a node: all are, where no marks are kept
abbrev pub marks_kept : (count : ℕ) → Option (Box (Vec Bool Global)) → List Bool
marks_kept count marks = unwrap_or (option_map (λ m. m.value.items) marks) (replicate count true)

-- the number of each that is a node, in turn from these, and none where one is gone
abbrev pub spread : (marks : List Bool) (numbers : List ℕ) → List (Option ℕ)
spread [] ns = []
spread (false ∷ bs) ns = None ∷ spread bs ns
spread (true ∷ bs) [] = None ∷ spread bs []
spread (true ∷ bs) (n ∷ ns) = Some n ∷ spread bs ns

-- one hidden prerequisite more is taken in: it is one of the nodes, or one that is gone, and where it wasn't mentioned before, it is
-- noted which of both
pub record Takes (is_node : List ℕ → Bool) (name : List ℕ) (nodes nodes_then gone gone_then : List (List ℕ)) (among among_then : List Bool) : Type 0 where
  pub nodes_are : nodes_then ≡ (if is_node name then added nodes name else nodes)
  pub gone_are : gone_then ≡ (if is_node name || has_name nodes name then gone else added gone name)
  pub among_are : among_then ≡ (if has_name nodes name || (not (is_node name) && has_name gone name) then among else among ++ is_node name ∷ [])

-- behind the hard prerequisites stand the hidden ones that are nodes, and of each hidden one that isn't hard it is known whether it is one
pub record HasHidden (is_node : List ℕ → Bool) (hard hidden nodes : List (List ℕ)) (among : List Bool) : Type 0 where
  pub nodes_are : nodes ≡ all_added hard (filter is_node hidden)
  pub among_are : among ≡ map is_node (drop (length hard) (all_added hard hidden))

-- the fault of looking at some names, of which those that aren't text aren't looked at
abbrev pub IsNamesFault : (refuses : List ℕ → Type 0) → (names : List (List ℕ)) → RuleFault → Type 0
IsNamesFault refuses names fault.OutOfMemory = Unit {0}
IsNamesFault refuses names (fault.Tree n) = IsTextAmong names n × refuses n
IsNamesFault refuses names _ = ⊥
