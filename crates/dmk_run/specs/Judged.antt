-- What bears out that a run answers 0. Own.
use Rattle.std.specs.Prelude.{◌≡◌, ◌⊎◌, ℕ, Bool, true, false, not, ◌&&◌, List, [], ◌∷◌, drop, get_or, Some, slice_get}
use Rattle.mk_nodes.specs.declared.graph.Graph.{Graph}
use Rattle.mk_plan.specs.Passing.{PassesUnlisted}
use Rattle.bd_places.specs.declared.end.End.{End}
use Rattle.bd_places.specs.declared.end.End.TheVariants as end
use Rattle.dmk_reading.specs.Passing.{ListsNone}

-- whether a node that ended so counts as remade
abbrev pub counts_as_remade : End → Bool
counts_as_remade end.UpToDate = false
counts_as_remade end.Remade = true
counts_as_remade end.Built = true
counts_as_remade (end.Failed status) = false
counts_as_remade end.Abandoned = false

-- a node that wasn't built is passed with nothing to be run, and counts as it ended; of another one nothing is said
abbrev pub IsJudged : (keeping : Bool) → Graph → (remade : List Bool) → (node : ℕ) → End → Type 0
IsJudged keeping graph remade node end.UpToDate = PassesUnlisted keeping graph remade node false
IsJudged keeping graph remade node end.Remade = PassesUnlisted keeping graph remade node true
IsJudged keeping graph remade node _ = Unit {0}

-- which nodes count as remade: those that ended so, but for those whose recipe left its files as they were
abbrev pub remade_by : (ends : List End) → (same : List Bool) → List Bool
remade_by [] same = []
remade_by (e ∷ ends) same = (counts_as_remade e && not (get_or same 0 false)) ∷ remade_by ends (drop 1 same)

-- so is each node, where those are remade that ended so
abbrev pub AreJudged : (keeping : Bool) → Graph → (ends : List End) → (same : List Bool) → Type 0
AreJudged keeping graph ends same =
    (node : ℕ) (end : End) → slice_get ends node ≡ Some end → IsJudged keeping graph (remade_by ends same) node end

-- a dry run lists no recipe, or each node that wasn't built is judged
abbrev pub IsBorneOut : (keeping : Bool) → Graph → (ends : List End) → (same : List Bool) → Type 0
IsBorneOut keeping graph ends same = ListsNone keeping graph ⊎ AreJudged keeping graph ends same
