-- The ends of a run judged one by one.
use Rattle.std.proofs.Common.{◌≡◌, ℕ, Bool, true, false, not, refl, ◌+◌, ◌<◌, ◌≤◌, List, length, Some, slice_get, sym, subst, ◌∙◌, ⊎_elim, arith}
use Rattle.std.proofs.lemmas.Bool.{cases_lt}
use Rattle.std.specs.Bool.{beq}
use Rattle.std.proofs.lemmas.Option.{slice_get_within, same_Some}
use Rattle.std.specs.List.{list_any}
use Rattle.mk_nodes.specs.declared.graph.Graph.{Graph}
use Rattle.mk_plan.specs.Passage.{is_listed}
use Rattle.mk_plan.specs.Passing.{Passes, PassesUnlisted, is_remade, told_in}
use Rattle.mk_plan.specs.declared.passing.Passed.{Passed}
use Rattle.bd_places.specs.declared.end.End.{End}

-- this is so of each end before this number
abbrev pub AllBefore : (P : ℕ → End → Type 0) → List End → (from : ℕ) → Type 0
AllBefore P ends from = (node : ℕ) (end : End) → node < from → slice_get ends node ≡ Some end → P node end

pub none_before : (P : ℕ → End → Type 0) (ends : List End) → AllBefore P ends 0
none_before P ends = λ node end before at. absurd (omega (arith, before))

pub one_more : (P : ℕ → End → Type 0) (ends : List End) (from : ℕ) (here : End) → slice_get ends from ≡ Some here → P from here → AllBefore P ends from → AllBefore P ends (from + 1)
one_more P ends from here stands is before = λ node end within at.
    ⊎_elim (λ earlier. before node end earlier at)
    (λ later.
    let same : from ≡ node = omega (arith, later, within) in
    let as_here : here ≡ end = same_Some here end (sym stands ∙ subst (λ (n : ℕ). slice_get ends n ≡ Some end) (sym same) at) in
    subst (λ (n : ℕ). P n end) same (subst (λ (e : End). P from e) as_here is))
    (cases_lt node from)

pub all_of_them : (P : ℕ → End → Type 0) (ends : List End) (from : ℕ) → length ends ≤ from → AllBefore P ends from → (node : ℕ) (end : End) → slice_get ends node ≡ Some end → P node end
all_of_them P ends from all before = λ node end at. before node end (let within = slice_get_within ends node end at in omega (arith, all, within)) at

-- a node that was passed so, and of which no recipe is listed
pub passes_unlisted : (keeping : Bool) (graph : Graph) (marks : List Bool) (n : ℕ) (remade : Bool) (p : Passed) →
    list_any is_listed (told_in graph n p) ≡ false → is_remade p ≡ remade → Passes keeping graph marks n (is_remade p) (told_in graph n p) →
    PassesUnlisted keeping graph marks n remade
passes_unlisted keeping graph marks n remade p unlisted is passes =
    (told_in graph n p, subst (λ r. Passes keeping graph marks n r (told_in graph n p)) is passes, unlisted)

-- two marks that compare as equal are one
same_mark : (a b : Bool) → beq a b ≡ true → a ≡ b
same_mark true true same = refl
same_mark true false same = cc
same_mark false true same = cc
same_mark false false same = refl

pub not_listed : (listed result : Bool) → listed ≡ true → result ≡ not listed → result ≡ true → ⊥
not_listed true result is said so = cc
not_listed false result is said so = cc

-- the node was passed as it was asked
pub by_mark : (p : Passed) (found remade result : Bool) → found ≡ is_remade p → result ≡ beq found remade → result ≡ true → is_remade p ≡ remade
by_mark p found remade result is same so = sym is ∙ same_mark found remade (sym same ∙ so)
