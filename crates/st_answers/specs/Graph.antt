-- What is drawn of a state: prerequisites of names, and an edge for each of them (own).
use Rattle.std.specs.Prelude.{◌≡◌, ◌+◌, ◌&&◌, ℕ, Bool, true, false, not, List, [], ◌∷◌, ◌++◌, Option, None, Some, filter, length, if◌then◌else◌, map as list_map}
use Rattle.std.specs.List.{flat_map}
use Rattle.std.specs.Str.{bytes_eq}
use Rattle.std.specs.FinMap as map
use Rattle.mk_names.specs.Names.{has_name, added, all_added}
use Rattle.st_records.specs.Parts.{names_known}
use Rattle.st_records.specs.declared.record.Entry.{Entry}
use Rattle.st_records.specs.declared.record.Explicit.{Explicit}
use Rattle.st_records.specs.declared.record.Explicit.TheVariants as explicits
use Rattle.st_marks.specs.Parts.{Parted, parts_of}
use Rattle.st_state.specs.State.{StateMap}
use Rattle.st_answers.specs.declared.drawing.Edge.{Edge}

-- the hidden prerequisites, where they count
abbrev pub hidden_where : (counts : Bool) → Entry → List (List ℕ)
hidden_where counts entry = if counts then entry.hidden else []

-- the source that an implicit rule gave the target, by what its marks say
abbrev pub source_among : Option Parted → Option (List ℕ)
source_among None = None
source_among (Some marks) = marks.source

abbrev pub source_of : (hidden : List (List ℕ)) → Explicit → Option (List ℕ)
source_of hidden explicits.Unknown = None
source_of hidden (explicits.Known names) = None
source_of hidden (explicits.Marked names text) = source_among (parts_of text (length names) (length hidden))

-- the source, where it counts
abbrev pub source_where : (counts : Bool) → Entry → Option (List ℕ)
source_where counts entry = if counts then source_of entry.hidden entry.explicit else None

abbrev pub listed : Option (List ℕ) → List (List ℕ)
listed None = []
listed (Some name) = name ∷ []

-- the prerequisites of an entry that count: the source first
abbrev pub prerequisites_in : (hidden source : Bool) → Entry → List (List ℕ)
prerequisites_in hidden source entry = listed (source_where source entry) ++ (names_known entry.explicit ++ hidden_where hidden entry)

abbrev pub prerequisites_by : (hidden source : Bool) → Option Entry → List (List ℕ)
prerequisites_by hidden source None = []
prerequisites_by hidden source (Some entry) = prerequisites_in hidden source entry

-- the prerequisites that count of a name: none of what is no target
abbrev pub prerequisites_of : StateMap → (hidden source : Bool) → List ℕ → List (List ℕ)
prerequisites_of m hidden source name = prerequisites_by hidden source (map.get m name)

-- ---- edges

-- a prerequisite of a name
pub record NamedEdge : Type 0 where
  pub user : List ℕ
  pub prerequisite : List ℕ
  pub hidden : Bool

abbrev pub named_edge : Edge → NamedEdge
named_edge e = record { user = e.user.now; prerequisite = e.prerequisite.now; hidden = e.hidden }

-- those that aren't among the names before, each where it stands first
abbrev pub new_names : (before names : List (List ℕ)) → List (List ℕ)
new_names before [] = []
new_names before (name ∷ names) = if has_name before name then new_names before names else name ∷ new_names (added before name) names

-- an edge to each of these that is drawn
abbrev pub edges_to : (drawn : List (List ℕ)) (user : List ℕ) (hidden : Bool) (prerequisites : List (List ℕ)) → List NamedEdge
edges_to drawn user hidden prerequisites =
    list_map (λ name. record { user = user; prerequisite = name; hidden = hidden }) (filter (has_name drawn) prerequisites)

-- the edges from one name: to each explicit prerequisite one, and to each hidden one that counts and isn't explicit too
abbrev pub edges_by : (drawn : List (List ℕ)) (hidden : Bool) (user : List ℕ) → Option Entry → List NamedEdge
edges_by drawn hidden user None = []
edges_by drawn hidden user (Some entry) =
    edges_to drawn user false (new_names [] (names_known entry.explicit))
    ++ edges_to drawn user true (new_names (all_added [] (names_known entry.explicit)) (hidden_where hidden entry))

abbrev pub edges_from : StateMap → (hidden : Bool) → (drawn : List (List ℕ)) → (user : List ℕ) → List NamedEdge
edges_from m hidden drawn user = edges_by drawn hidden user (map.get m user)

-- the edges from all names that are drawn, in the order of these
abbrev pub edges_among : StateMap → (hidden : Bool) → (drawn : List (List ℕ)) → List NamedEdge
edges_among m hidden drawn = flat_map (edges_from m hidden drawn) drawn

-- ---- which edges these are

-- the entry names it: as an explicit prerequisite, or as a hidden one that counts and isn't explicit too
abbrev pub is_named : (counts : Bool) → Option Entry → (hidden : Bool) → (name : List ℕ) → Bool
is_named counts None hidden name = false
is_named counts (Some entry) false name = has_name (names_known entry.explicit) name
is_named counts (Some entry) true name = has_name (hidden_where counts entry) name && not (has_name (names_known entry.explicit) name)

-- both ends are drawn, and the entry of the one names the other
abbrev pub is_edge : StateMap → (counts : Bool) → (drawn : List (List ℕ)) → NamedEdge → Bool
is_edge m counts drawn e = has_name drawn e.user && (has_name drawn e.prerequisite && is_named counts (map.get m e.user) e.hidden e.prerequisite)

abbrev pub same_edge : NamedEdge → NamedEdge → Bool
same_edge a b = bytes_eq a.user b.user && (bytes_eq a.prerequisite b.prerequisite && (if a.hidden then b.hidden else not b.hidden))

-- how often an edge stands among these
abbrev pub times : NamedEdge → List NamedEdge → ℕ
times e [] = 0
times e (x ∷ edges) = (if same_edge e x then 1 else 0) + times e edges

-- just those, each once
abbrev pub AreEdges : StateMap → (counts : Bool) → (drawn : List (List ℕ)) → List NamedEdge → Type 0
AreEdges m counts drawn edges = (e : NamedEdge) → times e edges ≡ (if is_edge m counts drawn e then 1 else 0)
