-- Names of which each is new at its place.
use Rattle.std.proofs.Common.{◌≡◌, ◌⊎◌, ℕ, ◌+◌, ◌<◌, ◌≤◌, true, false, true≢false, List, [], ◌∷◌, ◌++◌, length, take, refl, sym, ap, ◌∙◌, inl, inr, below_more, arith}
use Rattle.std.proofs.lemmas.Bool.{cases_order}
use Rattle.std.proofs.lemmas.List.{get_or-take, length-take-le, take_more}
use Rattle.mk_names.specs.Names.{name_at, has_name, added}
use Rattle.mk_names.proofs.NameLemmas.{added_new, has_name_at}
use Rattle.bd_ledger.specs.Sheet.{AreDistinct}

-- the first names were seen, and each of them was new
pub record AreNew (names : List (List ℕ)) (place : ℕ) (seen : List (List ℕ)) : Type 0 where
  pub first : seen ≡ take place names
  pub new : (k : ℕ) → k < place → has_name (take k names) (name_at names k) ≡ false

pub none_seen : (names : List (List ℕ)) → AreNew names 0 []
none_seen names = record { first = refl; new = λ k below. absurd (omega (arith, below)) }

pub one_more_seen : (names : List (List ℕ)) (place : ℕ) (seen : List (List ℕ)) (name : List ℕ) → place < length names → name ≡ name_at names place
    → AreNew names place seen → has_name seen name ≡ false → AreNew names (place + 1) (added seen name)
one_more_seen names place seen name within is are fresh = record {
  first = added_new seen name fresh ∙ ap (λ (s : List (List ℕ)). s ++ name ∷ []) are.first
      ∙ ap (λ (n : List ℕ). take place names ++ n ∷ []) is ∙ sym (take_more names place [] within);
  new = below_more (λ k. has_name (take k names) (name_at names k) ≡ false) place are.new
      (ap (λ (s : List (List ℕ)). has_name s (name_at names place)) (sym are.first) ∙ ap (has_name seen) (sym is) ∙ fresh);
}

later_differs : (names : List (List ℕ)) (n m : ℕ) → n < m → m < length names → has_name (take m names) (name_at names m) ≡ false
    → name_at names n ≡ name_at names m → ⊥
later_differs names n m before within new same =
    let short : length (take m names) ≡ m = length-take-le m names (omega (arith, within)) in
    let among = has_name_at (take m names) n (omega (arith, before, short)) in
    true≢false (sym among ∙ ap (has_name (take m names)) (get_or-take m names n [] before ∙ same) ∙ new)

pub all_differ : (names : List (List ℕ)) (place : ℕ) (seen : List (List ℕ)) → AreNew names place seen → length names ≤ place → AreDistinct names
all_differ names place seen are past n m n_in m_in same = by (cases_order n m)
  where
    by : (n ≡ m) ⊎ ((n < m) ⊎ (m < n)) → n ≡ m
    by (inl e) = e
    by (inr (inl before)) = absurd (later_differs names n m before m_in (are.new m (omega (arith, m_in, past))) same)
    by (inr (inr behind)) = absurd (later_differs names m n behind n_in (are.new n (omega (arith, n_in, past))) (sym same))
