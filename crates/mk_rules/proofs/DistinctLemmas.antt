-- Distinct names have one number each.
use Rattle.std.proofs.Common.{◌≡◌, ℕ, ◌<◌, true≢false, List, [], length, sym, ◌∙◌, arith, nat_lt, Bool, true, false, ltb-true, ltb-false, refl}
use Rattle.std.proofs.lemmas.Map.Keys.{apart_from_distinct}
use Rattle.std.specs.List.{IsDistinct}
use Rattle.std.specs.Str.{bytes_eq}
use Rattle.mk_names.specs.Names.{name_at}
use Rattle.mk_names.proofs.NameLemmas.{bytes_same}
use Rattle.mk_nodes.specs.Node.{EachHasOneNumber}

-- an earlier name is another
apart : (names : List (List ℕ)) → IsDistinct bytes_eq names → (n m : ℕ) → n < m → m < length names → name_at names n ≡ name_at names m → ⊥
apart names distinct n m before within same =
    true≢false (sym (bytes_same (name_at names n) (name_at names m) same) ∙ apart_from_distinct bytes_eq names n m [] distinct before within)

pub distinct_numbers : (names : List (List ℕ)) → IsDistinct bytes_eq names → EachHasOneNumber names
distinct_numbers names distinct n m n_within m_within same = by (nat_lt n m) (nat_lt m n) refl refl
  where
    by : (t u : Bool) → nat_lt n m ≡ t → nat_lt m n ≡ u → n ≡ m
    by true u e f = absurd (apart names distinct n m (ltb-true n m e) m_within same)
    by false true e f = absurd (apart names distinct m n (ltb-true m n f) n_within (sym same))
    by false false e f = let a = ltb-false n m e in let b = ltb-false m n f in omega (arith, a, b)
