-- Which nodes aren't made for want of others, as where a run goes on without names that have no file and that nothing makes (GNU Make
-- manual, `-k` in "Summary of Options").
use Rattle.std.specs.Prelude.{◌≡◌, ℕ, Bool, ◌&&◌, true, List, [], ◌∷◌}
use Rattle.mk_graph.specs.Edges.{row, has}
use Rattle.mk_nodes.specs.Graph.{required_in}
use Rattle.mk_nodes.specs.declared.graph.Graph.{Graph}
use Rattle.mk_profile.specs.Profile.{is_wide}
use Rattle.mk_profile.specs.declared.profile.Profile.{Profile}

-- a run goes on without names that have no file and that nothing makes. In the wide profile alone (own)
abbrev pub goes_without : Profile → (goes_on : Bool) → Bool
goes_without profile goes_on = is_wide profile && goes_on

-- a node stands on some: it is one of these, or it isn't made without another one that stands on them
pub data StandsOn (graph : Graph) (AreThese : ℕ → Type 0) : (node : ℕ) → Type 0 where
  is_one : {n : ℕ} → AreThese n → StandsOn graph AreThese n
  stands_on : {n m : ℕ} → has (row (required_in graph) n) m ≡ true → StandsOn graph AreThese m → StandsOn graph AreThese n

-- a node is lost: it stands on such names
abbrev pub IsLost : (graph : Graph) → (node : ℕ) → Type 0
IsLost graph node = StandsOn graph (λ n. has graph.unmade.items n ≡ true) node

-- the status of a run, a listing or an answer that came to this one: 2 where there are such names
abbrev pub with_unmade : {A : Type 0} → (unmade : List A) (status : ℕ) → ℕ
with_unmade [] status = status
with_unmade (one ∷ more) status = 2
