-- Which prerequisites of a node are newer, and whether a node without a recipe was remade. What a graph has under a number says `mk_seen`.
use Rattle.std.specs.Prelude.{◌≡◌, ◌⊎◌, ℕ, Bool, ◌&&◌, IsTrue, List, [], ◌∷◌, None}
use Rattle.std.specs.List.{Any}
use Rattle.mk_graph.specs.Edges.{row}
use Rattle.mk_names.specs.Names.{name_at}
use Rattle.mk_verdict.specs.Marks.{Differs}
use Rattle.mk_verdict.specs.Verdict.{IsLater}
use Rattle.mk_verdict.specs.declared.mark.Mark.{Mark}
use Rattle.mk_profile.specs.Profile.{is_wide}
use Rattle.mk_nodes.specs.Prerequisites.{is_unfinished}
use Rattle.mk_nodes.specs.declared.graph.Graph.{Graph}
use Rattle.mk_seen.specs.Marks.{look_of, mark_counted}
use Rattle.mk_seen.specs.Nodes.{stamp_of, made_of, entry_of}
use Rattle.mk_plan.specs.Parts.{language_of}
pub use Rattle.mk_seen.specs.Nodes.{made_beside, explicit_of, is_marked}

-- by the state the recipe of node n began and wasn't run to its end, which counts in the wide profile: nothing tells what went into its file
-- (own)
abbrev pub was_cut : Graph → (n : ℕ) → Bool
was_cut graph n = is_wide (language_of graph) && is_unfinished (entry_of graph n)

-- the prerequisite m, of which the state has this mark, is newer than the target n, as `$?` has it: a file of the target is missing or was
-- made by halves, or that of the prerequisite is later, or it was remade, or it isn't, or may not be, the file that the target was made of
-- (make(1S), "Dynamic Macros"; that remade ones, other files and all of a recipe that was cut off count: own)
abbrev pub IsNewer : Graph → (marks : List Bool) → (n : ℕ) → ℕ × Mark → Type 0
IsNewer graph marks n (m, mark) =
    (made_of graph n ≡ None)
    ⊎ (IsTrue (was_cut graph n)
    ⊎ (IsLater (stamp_of graph m) (made_of graph n)
    ⊎ (IsTrue (is_marked marks m)
    ⊎ Differs (mark_counted (look_of graph m) mark) (look_of graph m))))

-- the words that these prerequisites give `$?` of the target n: the names of those that are newer, in their order
pub data AreNewer (graph : Graph) (marks : List Bool) (n : ℕ) : (prerequisites : List (ℕ × Mark)) → (words : List (List ℕ)) → Type 0 where
  nothing : AreNewer graph marks n [] []
  named : {prerequisites : List (ℕ × Mark)} {words : List (List ℕ)} (p : ℕ × Mark) → IsNewer graph marks n p →
      AreNewer graph marks n prerequisites words → AreNewer graph marks n (p ∷ prerequisites) (name_at graph.names p.0 ∷ words)
  left_out : {prerequisites : List (ℕ × Mark)} {words : List (List ℕ)} (p : ℕ × Mark) → (IsNewer graph marks n p → ⊥) →
      AreNewer graph marks n prerequisites words → AreNewer graph marks n (p ∷ prerequisites) words

-- a node without a recipe was remade: it has no file, or a hard prerequisite was remade
abbrev pub EndsRemade : Graph → (marks : List Bool) → (n : ℕ) → Type 0
EndsRemade graph marks n = (stamp_of graph n ≡ None) ⊎ Any (λ m. IsTrue (is_marked marks m)) (row graph.hard n)
