-- The targets that lines mark are those of which some line of the mark speaks.
use Rattle.std.specs.Bool.{Decides}
use Rattle.std.specs.List.{list_any, flat_map}
use Rattle.std.proofs.Common.{◌≡◌, ◌∙◌, ℕ, Bool, true, false, cond, ◌&&◌, ◌||◌, List, [], ◌∷◌, ◌++◌, filter, Option, Some, None, refl, sym, ap, subst, bytes_eq}
use Rattle.std.proofs.lemmas.Bool.Decides.{Decides-and, Decides-or}
use Rattle.std.proofs.lemmas.List.Folds.{list_any-append}
use Rattle.mk_names.specs.Names.{has_name, all_added}
use Rattle.mk_lines.specs.Text.{is_empty}
use Rattle.mk_reader.specs.declared.special.SpecialName.{SpecialName}
use Rattle.mk_reader.specs.declared.special.SpecialName.TheVariants as special
use Rattle.mk_rule_lines.specs.Rules.{has, has_percent}
use Rattle.mk_settings.specs.Marks.{name_of, takes_patterns, IsOfPattern, SpeaksOf, HasMark, is_of, speaks_of_all, names_in, patterns_in, marked_by, is_of_pattern, has_mark}
use Rattle.mk_settings.specs.declared.marked.Mark.{Mark}
use Rattle.mk_settings.specs.declared.marked.Mark.TheVariants as mark
use Rattle.mk_rule_lines.specs.declared.rule_line.RuleLine.{RuleLine}
use Rattle.mk_settings.proofs.FitLemmas.{fits_decides, any_filter}
use Rattle.mk_names.proofs.NameLemmas.{or_none, or_both, has_all_added}
use Rattle.mk_rule_lines.proofs.KindLemmas.{any_decides, empty_decides, has_decides}

-- ---- lines

module _ (m : Mark) (target : List ℕ) where
  -- a pattern among names that is the target's
  abbrev fits_any : List (List ℕ) → Bool
  fits_any names = list_any (λ pattern. has_percent pattern && is_of_pattern target pattern) names

  -- a line of the mark speaks of the target
  abbrev speaks : RuleLine → Bool
  speaks l = is_of m l.special && (is_empty l.prerequisites || (has target l.prerequisites || (takes_patterns m l.profile && fits_any l.prerequisites)))

  chosen : (b : Bool) (names : List (List ℕ)) → has target (cond b names []) ≡ (b && has target names)
  chosen true names = refl
  chosen false names = refl

  fitting : (b t : Bool) (names : List (List ℕ)) → list_any (is_of_pattern target) (cond (b && t) (filter has_percent names) []) ≡ (b && (t && fits_any names))
  fitting true true names = any_filter (is_of_pattern target) has_percent names
  fitting true false names = refl
  fitting false t names = refl

  parted : (b e h x all some more both : Bool) → (all || (some || more)) ≡ both →
      (((b && e) || all) || (((b && h) || some) || ((b && x) || more))) ≡ ((b && (e || (h || x))) || both)
  parted false e h x all some more both is = is
  parted true true h x all some more both is = refl
  parted true false true x true some more both is = refl
  parted true false true x false some more both is = refl
  parted true false false true true some more both is = refl
  parted true false false false true some more both is = is
  parted true false false true false true more both is = refl
  parted true false false true false false more both is = refl
  parted true false false false false some more both is = is

  marked_is : (lines : List RuleLine) →
      (list_any (speaks_of_all m) lines || (has target (flat_map (names_in m) lines) || list_any (is_of_pattern target) (flat_map (patterns_in m) lines)))
      ≡ list_any speaks lines
  marked_is [] = refl
  marked_is (l ∷ lines) =
      let b = is_of m l.special in
      let all = list_any (speaks_of_all m) lines in
      let some = has target (flat_map (names_in m) lines) in
      let more = list_any (is_of_pattern target) (flat_map (patterns_in m) lines) in
      let names : has target (names_in m l ++ flat_map (names_in m) lines) ≡ ((b && has target l.prerequisites) || some)
      = list_any-append (bytes_eq target) (names_in m l) (flat_map (names_in m) lines) ∙ ap (λ c. c || some) (chosen b l.prerequisites) in
      let patterns : list_any (is_of_pattern target) (patterns_in m l ++ flat_map (patterns_in m) lines) ≡ ((b && (takes_patterns m l.profile && fits_any l.prerequisites)) || more)
      = list_any-append (is_of_pattern target) (patterns_in m l) (flat_map (patterns_in m) lines) ∙ ap (λ c. c || more) (fitting b (takes_patterns m l.profile) l.prerequisites) in
      ap (λ c. (speaks_of_all m l || all) || (c || list_any (is_of_pattern target) (patterns_in m l ++ flat_map (patterns_in m) lines))) names
      ∙ ap (λ c. (speaks_of_all m l || all) || (((b && has target l.prerequisites) || some) || c)) patterns
      ∙ parted b (is_empty l.prerequisites) (has target l.prerequisites) (takes_patterns m l.profile && fits_any l.prerequisites) all some more (list_any speaks lines) (marked_is lines)

mark_at : (m : Mark) (o : Option SpecialName) → Decides (is_of m o) (o ≡ Some (name_of m))
mark_at mark.Ignored None = ((λ e. absurd cc), λ e. absurd cc)
mark_at mark.Ignored (Some special.Ignore) = ((λ e. refl), λ e. refl)
mark_at mark.Ignored (Some other) = ((λ e. absurd cc), λ e. absurd cc)
mark_at mark.Silent None = ((λ e. absurd cc), λ e. absurd cc)
mark_at mark.Silent (Some special.Silent) = ((λ e. refl), λ e. refl)
mark_at mark.Silent (Some other) = ((λ e. absurd cc), λ e. absurd cc)
mark_at mark.Precious None = ((λ e. absurd cc), λ e. absurd cc)
mark_at mark.Precious (Some special.Precious) = ((λ e. refl), λ e. refl)
mark_at mark.Precious (Some other) = ((λ e. absurd cc), λ e. absurd cc)
mark_at mark.Console None = ((λ e. absurd cc), λ e. absurd cc)
mark_at mark.Console (Some special.Console) = ((λ e. refl), λ e. refl)
mark_at mark.Console (Some other) = ((λ e. absurd cc), λ e. absurd cc)

same_decides : (b : Bool) → Decides b (b ≡ true)
same_decides b = ((λ e. e), λ e. e)

speaks_decides : (m : Mark) (target : List ℕ) (l : RuleLine) → Decides (speaks m target l) ((l.special ≡ Some (name_of m)) × SpeaksOf m l target)
speaks_decides m target l =
    let fits = takes_patterns m l.profile && fits_any m target l.prerequisites in
    Decides-and (is_of m l.special) (is_empty l.prerequisites || (has target l.prerequisites || fits)) (mark_at m l.special)
    (Decides-or (is_empty l.prerequisites) (has target l.prerequisites || fits) (empty_decides l.prerequisites)
    (Decides-or (has target l.prerequisites) fits (has_decides target l.prerequisites)
    (Decides-and (takes_patterns m l.profile) (fits_any m target l.prerequisites) (same_decides (takes_patterns m l.profile))
    (any_decides (λ pattern. has_percent pattern && is_of_pattern target pattern) (λ pattern. IsOfPattern pattern target) (λ pattern. fits_decides target pattern) l.prerequisites))))

pub marks_decide : (m : Mark) (lines : List RuleLine) (target : List ℕ) → Decides (has_mark (marked_by m lines) target) (HasMark m lines target)
marks_decide m lines target =
    let more = list_any (is_of_pattern target) (flat_map (patterns_in m) lines) in
    let is : has_mark (marked_by m lines) target ≡ list_any (speaks m target) lines =
    ap (λ b. list_any (speaks_of_all m) lines || (b || more)) (has_all_added [] (flat_map (names_in m) lines) target) ∙ marked_is m target lines in
    subst (λ b. Decides b (HasMark m lines target)) (sym is)
    (any_decides (speaks m target) (λ l. (l.special ≡ Some (name_of m)) × SpeaksOf m l target) (speaks_decides m target) lines)
