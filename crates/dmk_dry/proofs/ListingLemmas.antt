-- One list: each node is passed in one way, and so with the marks that it leaves.
use Rattle.std.proofs.Common.{◌≡◌, ◌∙◌, ℕ, Bool, List, [], ◌∷◌, ◌++◌, refl, sym, ap, subst}
use Rattle.std.specs.Prelude.{slice_set}
use Rattle.mk_plan.specs.Passage.{Passage}
use Rattle.mk_nodes.specs.declared.graph.Graph.{Graph}
use Rattle.mk_plan.proofs.SameLemmas.{passes_once}
use Rattle.dmk_reading.specs.Passing.{Lists, at_end, behind, without}

module _ (keeping : Bool) (graph : Graph) where
  behind_alike : (n : ℕ) (order : List ℕ) (marks : List Bool) →
      ((left : List Bool) (a b : List Passage) → Lists keeping graph left order a → Lists keeping graph left order b → a ≡ b) →
      (a b : List Passage) → Lists keeping graph marks (n ∷ order) a → Lists keeping graph marks (n ∷ order) b → a ≡ b
  behind_alike n order marks same a b (behind {remade = p} {front = f} {listed = l} stands of_f of_l) (behind {remade = q} {front = g} {listed = m} again of_g of_m) =
      let one = passes_once keeping graph marks n p q f g of_f of_g in
      let rest : l ≡ m = same (slice_set marks n p) l m of_l (subst (λ r. Lists keeping graph (slice_set marks n r) order m) (sym one.0) of_m) in
      ap (λ x. x ++ l) one.1 ∙ ap (λ x. g ++ x) rest
  behind_alike n order marks same a b (behind stands of_f of_l) (without lost of_b) = absurd (stands lost)
  behind_alike n order marks same a b (without lost of_a) (behind stands of_g of_m) = absurd (stands lost)
  behind_alike n order marks same a b (without lost of_a) (without again of_b) = same marks a b of_a of_b

  pub lists_once : (order : List ℕ) (marks : List Bool) (a b : List Passage) →
      Lists keeping graph marks order a → Lists keeping graph marks order b → a ≡ b
  lists_once [] marks a b at_end at_end = refl
  lists_once (n ∷ order) marks a b h k = behind_alike n order marks (lists_once order) a b h k
