-- What the tests of a node mean, one by one; the words of `$?` are one list.
use Rattle.std.specs.Prelude.{◌<ℤ◌, int_lt, is_none}
use Rattle.std.specs.Bool.{Decides}
use Rattle.std.specs.List.{list_any}
use Rattle.std.proofs.Common.{◌≡◌, ◌∙◌, ℕ, ℤ, Bool, true, false, cond, ◌||◌, List, [], ◌∷◌, map, filter, Option, Some, None, refl, sym, ap, subst, arith}
use Rattle.std.proofs.lemmas.Bool.Decides.{Decides-or}
use Rattle.std.proofs.lemmas.Int.{ints}
use Rattle.std.proofs.lemmas.List.Folds.{Any-from_list_any, list_any-from_Any}
use Rattle.mk_graph.specs.Edges.{row}
use Rattle.mk_names.specs.Names.{name_at}
use Rattle.mk_verdict.specs.Tests.{is_later, mark_differs}
use Rattle.mk_verdict.specs.Verdict.{IsLater}
use Rattle.mk_verdict.specs.declared.mark.Mark.{Mark}
use Rattle.mk_verdict.proofs.MarkLemmas.{differs_decides}
use Rattle.mk_nodes.specs.declared.graph.Graph.{Graph}
use Rattle.mk_seen.specs.Marks.{look_of, mark_counted, hard_marked}
use Rattle.mk_seen.specs.Nodes.{stamp_of, made_of, is_marked}
use Rattle.mk_plan.specs.Nodes.{was_cut, IsNewer, AreNewer, nothing, named, left_out, EndsRemade}
use Rattle.mk_plan.specs.Tests.{is_newer_word, newer_words, ends_remade}

-- ---- times

absent_decides : (stamp : Option ℤ) → Decides (is_none stamp) (stamp ≡ None)
absent_decides None = ((λ e. refl), λ e. refl)
absent_decides (Some s) = ((λ e. absurd cc), λ e. absurd cc)

below_yes : (a b : ℤ) → int_lt a b ≡ true → a <ℤ b
below_yes a b e = grind (arith, ints)

below_no : (a b : ℤ) → a <ℤ b → int_lt a b ≡ true
below_no a b e = grind (arith, ints)

some_is : (a b : ℤ) → Some a ≡ Some b → a ≡ b
some_is a b e = cc

later_decides : (stamp target : Option ℤ) → Decides (is_later stamp target) (IsLater stamp target)
later_decides None target = ((λ e. absurd cc), λ (p, t, has, is, lt). absurd cc)
later_decides (Some s) None = ((λ e. absurd cc), λ (p, t, has, is, lt). absurd cc)
later_decides (Some s) (Some u) = (
  (λ e. (s, u, refl, refl, below_yes u s e)),
  λ (p, t, has, is, lt). below_no u s (rw (some_is s p has, some_is u t is) lt),
)

-- ---- what was remade, and what is newer

module _ (graph : Graph) (marks : List Bool) (n : ℕ) where
  pub ends_remade-decides : Decides (ends_remade graph marks n) (EndsRemade graph marks n)
  ends_remade-decides =
      Decides-or (is_none (stamp_of graph n)) (list_any (is_marked marks) (row graph.hard n)) (absent_decides (stamp_of graph n))
      (Any-from_list_any (is_marked marks) (row graph.hard n), list_any-from_Any (is_marked marks) (row graph.hard n))

  newer_decides : (p : ℕ × Mark) → Decides (is_newer_word graph marks n p) (IsNewer graph marks n p)
  newer_decides (m, mark) =
      Decides-or (is_none (made_of graph n))
      (was_cut graph n || (is_later (stamp_of graph m) (made_of graph n) || (is_marked marks m || mark_differs (mark_counted (look_of graph m) mark) (look_of graph m))))
      (absent_decides (made_of graph n))
      (Decides-or (was_cut graph n) (is_later (stamp_of graph m) (made_of graph n) || (is_marked marks m || mark_differs (mark_counted (look_of graph m) mark) (look_of graph m)))
      ((λ e. e), λ e. e)
      (Decides-or (is_later (stamp_of graph m) (made_of graph n)) (is_marked marks m || mark_differs (mark_counted (look_of graph m) mark) (look_of graph m))
      (later_decides (stamp_of graph m) (made_of graph n))
      (Decides-or (is_marked marks m) (mark_differs (mark_counted (look_of graph m) mark) (look_of graph m)) ((λ e. e), λ e. e) (differs_decides (mark_counted (look_of graph m) mark) (look_of graph m)))))

  -- the words that these give
  abbrev pub words_by : (ps : List (ℕ × Mark)) → List (List ℕ)
  words_by ps = map (λ p. name_at graph.names p.0) (filter (is_newer_word graph marks n) ps)

  newer_one : (p : ℕ × Mark) (ps : List (ℕ × Mark)) (b : Bool) → is_newer_word graph marks n p ≡ b → AreNewer graph marks n ps (words_by ps) →
      AreNewer graph marks n (p ∷ ps)
      (map (λ q. name_at graph.names q.0) (cond b (p ∷ filter (is_newer_word graph marks n) ps) (filter (is_newer_word graph marks n) ps)))
  newer_one p ps true e rest = named p ((newer_decides p).0 e) rest
  newer_one p ps false e rest = left_out p (λ is. let both : false ≡ true = sym e ∙ (newer_decides p).1 is in cc) rest

  pub newer_by : (ps : List (ℕ × Mark)) → AreNewer graph marks n ps (words_by ps)
  newer_by [] = nothing
  newer_by (p ∷ ps) = newer_one p ps (is_newer_word graph marks n p) refl (newer_by ps)

  -- the words that pass the test are those of `$?`
  pub are_newer : (words : List (List ℕ)) → words ≡ newer_words graph marks n → AreNewer graph marks n (hard_marked graph n) words
  are_newer words is = subst (AreNewer graph marks n (hard_marked graph n)) (sym is) (newer_by (hard_marked graph n))

  -- ---- one list of words

  same_behind : (p : ℕ × Mark) (ps : List (ℕ × Mark)) (a b : List (List ℕ)) →
      ((x y : List (List ℕ)) → AreNewer graph marks n ps x → AreNewer graph marks n ps y → x ≡ y) →
      AreNewer graph marks n (p ∷ ps) a → AreNewer graph marks n (p ∷ ps) b → a ≡ b
  same_behind p ps a b same (named _ is here) (named _ is' there) = ap (λ words. name_at graph.names p.0 ∷ words) (same _ _ here there)
  same_behind p ps a b same (named _ is here) (left_out _ other there) = absurd (other is)
  same_behind p ps a b same (left_out _ other here) (named _ is there) = absurd (other is)
  same_behind p ps a b same (left_out _ other here) (left_out _ other' there) = same _ _ here there

  pub same_newer : (ps : List (ℕ × Mark)) (a b : List (List ℕ)) → AreNewer graph marks n ps a → AreNewer graph marks n ps b → a ≡ b
  same_newer [] a b nothing nothing = refl
  same_newer (p ∷ ps) a b h k = same_behind p ps a b (same_newer ps) h k
