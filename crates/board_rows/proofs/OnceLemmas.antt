-- Rows that hold each number once.
use Rattle.std.proofs.Common.{◌≡◌, ℕ, ◌<◌, ◌≤◌, Bool, true, false, nat_lt, List, [], length, refl, arith}
use Rattle.std.proofs.lemmas.Bool.Decides.{nat_tests}
use Rattle.std.proofs.lemmas.List.{get_or_past}
use Rattle.mk_graph.specs.Edges.{row, times}

rows_within : (g : List (List ℕ)) (m u n : ℕ) → ((v : ℕ) → v < m → (k : ℕ) → times k (row g v) ≤ 1) → length g ≤ m → (b : Bool) → nat_lt u m ≡ b → times n (row g u) ≤ 1
rows_within g m u n below past true e = below u (grind (arith, nat_tests)) n
rows_within g m u n below past false e =
    let out : length g ≤ u = grind (arith, nat_tests) in
    rw (get_or_past g u [] out) (omega arith)

-- each row has its numbers once where the first rows do, and there are no more
pub rows_once : (g : List (List ℕ)) (m : ℕ) → ((v : ℕ) → v < m → (k : ℕ) → times k (row g v) ≤ 1) → length g ≤ m → (u n : ℕ) → times n (row g u) ≤ 1
rows_once g m below past u n = rows_within g m u n below past (nat_lt u m) refl
