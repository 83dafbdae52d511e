-- Rows, one more at a time.
use Rattle.std.proofs.Common.{arith, ◌≡◌, ◌≤◌, ◌<◌, ◌+◌, ℕ, List, [], ◌∷◌, ◌++◌, length, map, take, drop, get_or, Some, sym, ap, subst, ◌∙◌, ⊎_elim, length-append}
use Rattle.std.specs.Prelude.{slice_get, option_map}
use Rattle.std.proofs.lemmas.List.{length-map}
use Rattle.std.proofs.lemmas.Option.{get_or_from_slice_get, slice_get-map}
use Rattle.std.proofs.lemmas.Bool.{cases_lt}
use Rattle.std.proofs.Math.Seq.{get_or-append_seam}
use Rattle.std.proofs.Math.ListN.{get_or-append}
use Rattle.mk_graph.specs.Edges.{row}
use Rattle.mk_graph.specs.Parts.{by_counts, fronts, backs}
use Rattle.mk_graph.proofs.PartLemmas.{length-by_counts, row-by_counts}
use Rattle.mk_edges.specs.Rows.{EachRow, IsHardRow, IsWaitedRow}
use Rattle.mk_nodes.specs.declared.graph.Node.{Node}

at_end : (n : ℕ) (rows : List (List ℕ)) (r : List ℕ) → n < length (rows ++ r ∷ []) → length rows ≤ n → n ≡ length rows
at_end n rows r within past = let l = length-append rows (r ∷ []) in omega arith

-- one row more that has the property
pub each_more : (is : (n : ℕ) → List ℕ → Type 0) (rows : List (List ℕ)) (r : List ℕ) → EachRow is rows → is (length rows) r → EachRow is (rows ++ r ∷ [])
each_more is rows r each here n within =
    ⊎_elim
    (λ (below : n < length rows). subst (is n) (sym (get_or-append rows (r ∷ []) [] n below)) (each n below))
    (λ (past : length rows ≤ n).
    let at : n ≡ length rows = at_end n rows r within past in
    subst (λ (m : ℕ). is m (row (rows ++ r ∷ []) m)) (sym at) (subst (is (length rows)) (sym (get_or-append_seam rows r [] [])) here))
    (cases_lt n (length rows))

-- the rows that the counts of hard prerequisites part
module _ (g : List (List ℕ)) (known : List Node) (counts : List ℕ) (are : counts ≡ map (λ k. k.hard) known) (same : length g ≡ length known) where
  pub as_many_counts : length counts ≡ length g
  as_many_counts = ap length are ∙ length-map known (λ k. k.hard) ∙ sym same

  count_of : (n : ℕ) (k : Node) → slice_get known n ≡ Some k → get_or counts n 0 ≡ k.hard
  count_of n k read =
      get_or_from_slice_get counts n k.hard 0
      (ap (λ l. slice_get l n) are ∙ slice_get-map (λ (f : Node). f.hard) known n ∙ ap (option_map (λ (f : Node). f.hard)) read)

  module _ (part : ℕ → List ℕ → List ℕ) where
    pub as_many_parts : length (by_counts part counts g) ≡ length known
    as_many_parts = length-by_counts part counts g as_many_counts ∙ same

    part_of : (n : ℕ) (k : Node) → n < length (by_counts part counts g) → slice_get known n ≡ Some k → row (by_counts part counts g) n ≡ part k.hard (row g n)
    part_of n k within read =
        row-by_counts part counts g as_many_counts n (let many = length-by_counts part counts g as_many_counts in omega arith)
        ∙ ap (λ c. part c (row g n)) (count_of n k read)

  pub hard_parts : EachRow (IsHardRow g known) (fronts counts g)
  hard_parts n within k read = part_of take n k within read

  pub waited_parts : EachRow (IsWaitedRow g known) (backs counts g)
  waited_parts n within k read = part_of drop n k within read

-- one item more
pub more_items : {V : Type 0} (vs : List V) (v : V) (after : List V) (k : ℕ) → after ≡ vs ++ v ∷ [] → length vs ≡ k → length after ≡ k + 1
more_items vs v after k is count = let e = ap length is in let l = length-append vs (v ∷ []) in omega arith
