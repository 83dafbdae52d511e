-- The rows of two graphs together.
use Rattle.std.proofs.Common.{◌≡◌, ℕ, ◌-◌, List, [], ◌∷◌, ◌++◌, length, take, replicate, suc, zero, refl, sym, ap, ◌∙◌, subst, arith, append-nil}
use Rattle.std.specs.Prelude.{slice_range}
use Rattle.std.proofs.lemmas.List.{drop_all, take_all, length-replicate}
use Rattle.byte_strings.specs.Pieces.{pieces, AreEnds}
use Rattle.byte_strings.proofs.PieceLemmas.{length-pieces}
use Rattle.mk_graph.specs.Edges.{row}
use Rattle.mk_graph.specs.Counted.{joined}

pub length-joined : (hard soft : List (List ℕ)) → length (joined hard soft) ≡ length hard
length-joined [] soft = refl
length-joined (ns ∷ hard) [] = refl
length-joined (ns ∷ hard) (ms ∷ soft) = ap suc (length-joined hard soft)

pub row-joined : (hard soft : List (List ℕ)) → length soft ≡ length hard → (n : ℕ) → row (joined hard soft) n ≡ row hard n ++ row soft n
row-joined [] [] same n = refl
row-joined [] (ms ∷ soft) same n = absurd (omega arith)
row-joined (ns ∷ hard) [] same n = absurd (omega arith)
row-joined (ns ∷ hard) (ms ∷ soft) same zero = refl
row-joined (ns ∷ hard) (ms ∷ soft) same (suc n) = row-joined hard soft (omega arith) n

-- rows that have no numbers add none
range_none : (numbers : List ℕ) (start end : ℕ) → length numbers ≡ 0 → slice_range numbers start end ≡ []
range_none numbers start end none = ap (take (end - start)) (drop_all start numbers (omega arith)) ∙ take_all (end - start) [] (omega arith)

joined_none : (first : List (List ℕ)) (numbers : List ℕ) (start : ℕ) (ends : List ℕ) → length numbers ≡ 0 → joined first (pieces numbers start ends) ≡ first
joined_none [] numbers start ends none = refl
joined_none (ns ∷ first) numbers start [] none = refl
joined_none (ns ∷ first) numbers start (end ∷ ends) none =
    let same : ns ++ slice_range numbers start end ≡ ns = ap (λ l. ns ++ l) (range_none numbers start end none) ∙ append-nil ns in
    let rest = joined_none first numbers end ends none in
    (λ i. same i ∷ rest i)

pub row_blank : (numbers : List ℕ) (start : ℕ) (ends : List ℕ) (n : ℕ) → length numbers ≡ 0 → row (pieces numbers start ends) n ≡ []
row_blank numbers start [] n none = refl
row_blank numbers start (end ∷ ends) zero none = range_none numbers start end none
row_blank numbers start (end ∷ ends) (suc n) none = row_blank numbers end ends n none

pub ends_blank : (numbers ends : List ℕ) (nodes : ℕ) → ends ≡ replicate nodes 0 → numbers ≡ [] → AreEnds (length numbers) 0 ends
ends_blank numbers ends nodes are none = subst (λ l. AreEnds (length l) 0 ends) (sym none) (subst (AreEnds 0 0) (sym are) (zeros nodes))
  where
    zeros : (nodes : ℕ) → AreEnds 0 0 (replicate nodes 0)
    zeros zero = refl
    zeros (suc nodes) = (omega arith, zeros nodes)

pub length_blank : (numbers ends : List ℕ) (nodes : ℕ) → ends ≡ replicate nodes 0 → length (pieces numbers 0 ends) ≡ nodes
length_blank numbers ends nodes are = length-pieces numbers 0 ends ∙ ap length are ∙ length-replicate nodes 0

pub joined_blank : (first : List (List ℕ)) (numbers ends : List ℕ) → numbers ≡ [] → joined first (pieces numbers 0 ends) ≡ first
joined_blank first numbers ends none = joined_none first numbers 0 ends (ap length none)
