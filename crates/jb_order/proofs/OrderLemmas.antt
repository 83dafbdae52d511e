-- Rows that are pushed one by one.
use Rattle.std.proofs.Common.{◌≡◌, ◌+◌, ◌<◌, ℕ, List, [], ◌∷◌, ◌++◌, length, ap, ◌∙◌, arith, inl, inr}
use Rattle.std.proofs.lemmas.List.{get_or_append_left, get_or_at}
use Rattle.std.proofs.lemmas.Bool.{cases_lt}
use Rattle.mk_graph.specs.Edges.{row}

-- the first so many rows have these edges, and may have further ones
abbrev pub HasAlsoTo : (k : ℕ) (edges more : List (List ℕ)) → Type 0
HasAlsoTo k edges more = (n : ℕ) → n < k → (further : List ℕ) × (row more n ≡ row edges n ++ further)

-- one row more
pub has_next : (k : ℕ) (edges more : List (List ℕ)) (next : List ℕ) → length more ≡ k → HasAlsoTo k edges more
    → (further : List ℕ) × (next ≡ row edges k ++ further) → HasAlsoTo (k + 1) edges (more ++ next ∷ [])
has_next k edges more next len has here = λ n below.
    elim (cases_lt n k) [
      | inl before ↦ (
        (has n before).0,
        get_or_append_left more (next ∷ []) [] n (omega (arith, before, len)) ∙ (has n before).1,
      )
      | inr behind ↦ (
        here.0,
        get_or_at more next [] [] n (omega (arith, len, below, behind)) ∙ here.1 ∙ ap (λ m. row edges m ++ here.0) (omega (arith, below, behind)),
      )
    ]
