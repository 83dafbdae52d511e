-- The rows that counts part.
use Rattle.std.proofs.Common.{◌≡◌, ℕ, zero, suc, ◌+◌, ◌<◌, List, [], ◌∷◌, ◌++◌, length, take, slice_index, refl, sym, ap, ◌∙◌, arith}
use Rattle.std.proofs.lemmas.List.{take_more}
use Rattle.mk_graph.specs.Edges.{row}
use Rattle.mk_graph.specs.Parts.{by_counts}

module _ (part : ℕ → List ℕ → List ℕ) where
  pub length-by_counts : (counts : List ℕ) (g : List (List ℕ)) → length counts ≡ length g → length (by_counts part counts g) ≡ length g
  length-by_counts counts [] same = refl
  length-by_counts [] (ns ∷ g) same = absurd (omega arith)
  length-by_counts (count ∷ counts) (ns ∷ g) same = ap suc (length-by_counts counts g (omega arith))

  pub row-by_counts : (counts : List ℕ) (g : List (List ℕ)) → length counts ≡ length g → (n : ℕ) → n < length g
      → row (by_counts part counts g) n ≡ part (slice_index counts n) (row g n)
  row-by_counts counts [] same n within = absurd (omega arith)
  row-by_counts [] (ns ∷ g) same n within = absurd (omega arith)
  row-by_counts (count ∷ counts) (ns ∷ g) same zero within = refl
  row-by_counts (count ∷ counts) (ns ∷ g) same (suc n) within = row-by_counts counts g (omega arith) n (omega arith)

  -- the parts of one row more
  pub parts_more : (counts : List ℕ) (g : List (List ℕ)) (n : ℕ) (so_far : List (List ℕ)) (r : List ℕ) → length counts ≡ length g → n < length g
      → so_far ≡ take n (by_counts part counts g) → r ≡ part (slice_index counts n) (row g n)
      → so_far ++ r ∷ [] ≡ take (n + 1) (by_counts part counts g)
  parts_more counts g n so_far r same within is here =
      let many = length-by_counts counts g same in
      ap (λ l. l ++ r ∷ []) is
      ∙ ap (λ x. take n (by_counts part counts g) ++ x ∷ []) (here ∙ sym (row-by_counts counts g same n within))
      ∙ sym (take_more (by_counts part counts g) n [] (omega arith))
