-- Graphs that say the same of each number pass their nodes in the same way.
use Rattle.std.specs.Prelude.{IsTrue, ◌&&◌, if◌then◌else◌, codes, encode_utf8_all}
use Rattle.std.specs.List.{Any}
use Rattle.std.specs.Option.{option_map_or}
use Rattle.std.proofs.Common.{◌≡◌, ◌∙◌, ◌⊎◌, ℕ, ℤ, Bool, true, false, not, cond, List, [], ◌∷◌, ◌++◌, map, filter, Option, Some, None, refl, sym, ap, subst}
use Rattle.bstr.specs.Utf8.{lossy_chars}
use Rattle.mk_graph.specs.Edges.{row}
use Rattle.mk_names.specs.Names.{all_added, name_at, has_name}
use Rattle.mk_macros.specs.Ranks.{Defined, meanings_of}
use Rattle.mk_macros.specs.declared.dynamic.Dynamic.TheVariants as dynamic
use Rattle.mk_macros.specs.declared.dynamic.RecipeNames.{RecipeNames}
use Rattle.mk_recipe.specs.declared.line.Line.{Line}
use Rattle.mk_verdict.specs.Marks.{Differs}
use Rattle.mk_verdict.specs.Verdict.{IsLater, IsFirstReason, IsOutOfDate}
use Rattle.mk_verdict.specs.declared.mark.Look.{Look}
use Rattle.mk_verdict.specs.declared.mark.Mark.{Mark}
use Rattle.mk_verdict.specs.declared.verdict.Reason.{Reason}
use Rattle.mk_verdict.specs.declared.verdict.Reason.TheVariants as reason
use Rattle.mk_verdict.specs.declared.verdict.Target.{Target}
use Rattle.mk_profile.specs.Profile.{is_wide}
use Rattle.mk_profile.specs.declared.profile.Profile.{Profile}
use Rattle.mk_lines.specs.Text.{is_empty}
use Rattle.mk_rule_lines.specs.Explicit.{names_in, explicit_of as explicit_names}
use Rattle.mk_rule_lines.specs.Rules.{suffixes_of, is_default_rule}
use Rattle.mk_rule_lines.specs.declared.rule_line.RuleLine.{RuleLine}
use Rattle.mk_nodes.specs.Prerequisites.{distinct, hidden_in, is_unfinished}
use Rattle.mk_nodes.specs.declared.graph.Graph.{Graph}
use Rattle.mk_marks.specs.declared.noted.Noted.{Noted}
use Rattle.mk_seen.specs.Marks.{look_of, mark_counted, with_marks, marks_of, hard_marked}
use Rattle.mk_seen.specs.Nodes.{stamp_of, made_of, entry_of, stem_of, source_of, is_marked}
use Rattle.st_records.specs.declared.record.Entry.{Entry}
use Rattle.mk_plan.specs.ExplicitWords.{once_of, first_of, is_implicit, source_word, stem_left, stem_word}
use Rattle.mk_plan.specs.Nodes.{was_cut, IsNewer, AreNewer, nothing, named, left_out, EndsRemade}
use Rattle.mk_plan.specs.PartWords.{once_in, written_in, hard_in}
use Rattle.mk_plan.specs.Parts.{language_of, is_part}
use Rattle.mk_plan.specs.Recipe.{AreExpanded, AreNames, AreLinesIn, AreLinesOf}
use Rattle.mk_plan.specs.Target.{IsTargetOf}
use Rattle.mk_plan.specs.Change.{change_of, changed_commands, changed_names, commands_of}
use Rattle.mk_plan.specs.Passage.{Passage, to_make, finished}
use Rattle.mk_plan.specs.Passing.{Passes, is_to_be_run, is_up_to_date, has_no_recipe, is_left}
use Rattle.mk_plan.specs.Words.{in_wide, implied_names, written_of, order_only_words}
use Rattle.mk_plan.specs.Why.{IsWhy, judged_names, words_by, gone_number}
use Rattle.mk_plan.specs.declared.why.Why.{Why}
use Rattle.mk_plan.proofs.SeenLemmas.{turned, same_noted, same_files, same_compared, same_marks, seen_in}
pub use Rattle.mk_plan.proofs.SeenLemmas.{AreAlike}

-- ---- what is newer, and what ends as remade

abbrev IsNewerBy : (marks : List Bool) (m : ℕ) (mark : Mark) (cut : Bool) (stamp target : Option ℤ) (look : Look) → Type 0
IsNewerBy marks m mark cut stamp target look =
    (target ≡ None) ⊎ (IsTrue cut ⊎ (IsLater stamp target ⊎ (IsTrue (is_marked marks m) ⊎ Differs (mark_counted look mark) look)))

same_cut : (a b : Graph) → AreAlike a b → (n : ℕ) → was_cut a n ≡ was_cut b n
same_cut a b same n =
    ap (λ (d : Defined). is_wide d.language && is_unfinished (entry_of a n)) same.defined
    ∙ ap (λ (o : Option Entry). is_wide (language_of b) && is_unfinished o) (same.entry n)

newer_in : (a b : Graph) → AreAlike a b → (marks : List Bool) (n : ℕ) (p : ℕ × Mark) → IsNewer a marks n p → IsNewer b marks n p
newer_in a b same marks n (m, mark) is =
    subst (λ c. IsNewerBy marks m mark c (stamp_of b m) (made_of b n) (look_of b m)) (same_cut a b same n)
    (subst (λ t. IsNewerBy marks m mark (was_cut a n) (stamp_of b m) t (look_of b m)) (same.made n)
    (subst (λ s. IsNewerBy marks m mark (was_cut a n) s (made_of a n) (look_of b m)) (same.stamp m)
    (subst (λ l. IsNewerBy marks m mark (was_cut a n) (stamp_of a m) (made_of a n) l) (same.look m) is)))

words_in : (a b : Graph) → AreAlike a b → (marks : List Bool) (n : ℕ) (ps : List (ℕ × Mark)) (words : List (List ℕ)) →
    AreNewer a marks n ps words → AreNewer b marks n ps words
words_in a b same marks n _ _ nothing = nothing
words_in a b same marks n _ _ (named {prerequisites = ps} {words = words} p is more) =
    subst (λ w. AreNewer b marks n (p ∷ ps) (w ∷ words)) (sym (ap (λ ns. name_at ns p.0) same.names))
    (named p (newer_in a b same marks n p is) (words_in a b same marks n ps words more))
words_in a b same marks n _ _ (left_out {prerequisites = ps} {words = words} p other more) =
    left_out p (λ is. other (newer_in b a (turned a b same) marks n p is)) (words_in a b same marks n ps words more)

abbrev EndsRemadeBy : (marks : List Bool) (stamp : Option ℤ) (hard : List ℕ) → Type 0
EndsRemadeBy marks stamp hard = (stamp ≡ None) ⊎ Any (λ m. IsTrue (is_marked marks m)) hard

ends_in : (a b : Graph) → AreAlike a b → (marks : List Bool) (n : ℕ) → EndsRemade a marks n → EndsRemade b marks n
ends_in a b same marks n ends =
    subst (λ s. EndsRemadeBy marks s (row b.hard n)) (same.stamp n) (subst (λ h. EndsRemadeBy marks (stamp_of a n) (row h n)) same.hard ends)

-- ---- lines and targets

module _ (a b : Graph) (same : AreAlike a b) (marks : List Bool) (n : ℕ) where
  same_once : once_of a n ≡ once_of b n
  same_once = ap (λ ns. map (name_at ns) (row a.hard n)) same.names ∙ ap (λ h. map (name_at b.names) (row h n)) same.hard

  same_written : written_of a n ≡ written_of b n
  same_written =
      ap (λ s. s ++ explicit_names a.lines.items (name_at a.names n)) (same.sources n)
      ∙ ap (λ lines. implied_names b n ++ explicit_names lines (name_at a.names n)) same.lines
      ∙ ap (λ ns. implied_names b n ++ explicit_names b.lines.items (name_at ns n)) same.names

  same_hard : hard_marked a n ≡ hard_marked b n
  same_hard = ap (λ h. with_marks (row h n) (marks_of a n)) same.hard ∙ ap (with_marks (row b.hard n)) (same_marks a b same marks n)

  wide_in : {A : Type 0} (v w : A) → v ≡ w → in_wide (language_of a) v ≡ in_wide (language_of b) w
  wide_in v w e = ap (λ (d : Defined). in_wide d.language v) same.defined ∙ ap (in_wide (language_of b)) e

  -- what a line speaks of is the same choice of the same prerequisites
  module _ (l : RuleLine) where
    abbrev chosen : {A : Type 0} → (own whole : A) → Profile → A
    chosen own whole profile = if is_part profile l then own else whole

    once_alike : once_in a n l ≡ once_in b n l
    once_alike =
        ap (λ (d : Defined). chosen (distinct (names_in l)) (once_of a n) d.language) same.defined
        ∙ ap (λ ns. chosen (distinct (names_in l)) ns (language_of b)) same_once

    written_alike : written_in a n l ≡ written_in b n l
    written_alike =
        ap (λ (d : Defined). chosen (names_in l) (written_of a n) d.language) same.defined
        ∙ ap (λ ns. chosen (names_in l) ns (language_of b)) same_written

    abbrev among : (names : List (List ℕ)) (hard : List (ℕ × Mark)) → List (ℕ × Mark)
    among names hard = filter (λ p. has_name (distinct (names_in l)) (name_at names p.0)) hard

    hard_alike : hard_in a n l ≡ hard_in b n l
    hard_alike =
        ap (λ (d : Defined). chosen (among a.names (hard_marked a n)) (hard_marked a n) d.language) same.defined
        ∙ ap (λ ns. chosen (among ns (hard_marked a n)) (hard_marked a n) (language_of b)) same.names
        ∙ ap (λ h. chosen (among b.names h) h (language_of b)) same_hard

    -- what `$<` and `$*` stand for is the same choice of the same values
    abbrev source_from : Profile → (sources once : List (List ℕ)) (source : List ℕ) → List ℕ
    source_from profile sources once source =
        if is_wide profile && is_empty sources then first_of (chosen (names_in l) (names_in l ++ once) profile) else source

    abbrev source_of_rule : Graph → List ℕ
    source_of_rule graph = source_from (language_of graph) (implied_names graph n) (once_of graph n) (source_of graph n)

    rule_alike : source_of_rule a ≡ source_of_rule b
    rule_alike =
        ap (λ (d : Defined). source_from d.language (implied_names a n) (once_of a n) (source_of a n)) same.defined
        ∙ ap (λ ns. source_from (language_of b) ns (once_of a n) (source_of a n)) (same.sources n)
        ∙ ap (λ ns. source_from (language_of b) (implied_names b n) ns (source_of a n)) same_once
        ∙ ap (source_from (language_of b) (implied_names b n) (once_of b n)) (same.source n)

    source_alike : source_word a n l ≡ source_word b n l
    source_alike =
        ap (λ ns. cond (is_default_rule l.special) (name_at ns n) (source_of_rule a)) same.names
        ∙ ap (cond (is_default_rule l.special) (name_at b.names n)) rule_alike

  abbrev stem_from : Profile → (implicit : Bool) (lines : List RuleLine) (name stem : List ℕ) → List ℕ
  stem_from profile implicit lines name stem = if is_wide profile && not implicit then stem_left (suffixes_of lines) name else stem

  stem_alike : stem_word a n ≡ stem_word b n
  stem_alike =
      ap (λ (d : Defined). stem_from d.language (is_implicit a n) a.lines.items (name_at a.names n) (stem_of a n)) same.defined
      ∙ ap (λ i. stem_from (language_of b) i a.lines.items (name_at a.names n) (stem_of a n)) (same.implicit n)
      ∙ ap (λ lines. stem_from (language_of b) (is_implicit b n) lines (name_at a.names n) (stem_of a n)) same.lines
      ∙ ap (λ ns. stem_from (language_of b) (is_implicit b n) b.lines.items (name_at ns n) (stem_of a n)) same.names
      ∙ ap (stem_from (language_of b) (is_implicit b n) b.lines.items (name_at b.names n)) (same.stem n)

  names_alike : (l : RuleLine) (names : RecipeNames) → AreNames a marks n l names → AreNames b marks n l names
  names_alike l names are = record {
    target = are.target ∙ ap (λ ns. name_at ns n) same.names;
    source = are.source ∙ source_alike l;
    stem = are.stem ∙ stem_alike;
    newer =
        subst (λ ps. AreNewer b marks n ps (map (λ word. word.now) names.newer.now)) (hard_alike l) (words_in a b same marks n _ _ are.newer);
    once = are.once ∙ wide_in (once_in a n l) (once_in b n l) (once_alike l);
    repeated = are.repeated ∙ wide_in (written_in a n l) (written_in b n l) (written_alike l);
    order_only = are.order_only ∙ wide_in (order_only_words a n) (order_only_words b n) (same.order_only n);
  }

  part_in : (l : RuleLine) (lines : List Line) → AreLinesIn a marks n l lines → AreLinesIn b marks n l lines
  part_in l lines are = record {
    names = are.names;
    are_names = names_alike l are.names are.are_names;
    expanded = subst (λ r. AreExpanded (meanings_of r (dynamic.RecipeLine are.names)) l.recipe lines) same.defined are.expanded;
  }

  lines_in : (recipe : List RuleLine) (lines : List Line) → AreLinesOf a marks n recipe lines → AreLinesOf b marks n recipe lines
  lines_in [] lines are = are
  lines_in (l ∷ parts) lines (own, rest, of_line, more, is) = (own, rest, part_in l own of_line, lines_in parts rest more, is)

  target_in : (lines : List Line) (target : Target) → IsTargetOf a marks n lines target → IsTargetOf b marks n lines target
  target_in lines target is = record {
    commands = is.commands;
    explicit = is.explicit ∙ same_compared a b same marks n;
    stamp = is.stamp ∙ same.made n;
    prerequisites = is.prerequisites ∙ seen_in a b same marks n;
    ordered = is.ordered ∙ ap not same.dropped;
    source = is.source ∙ ap (λ (m : Noted). m.source_changed) (same_noted a b same marks n);
    files = is.files ∙ same_files a b same marks n;
  }

  -- ---- reasons, and what is told

  names_in_both : judged_names a n ≡ judged_names b n
  names_in_both =
      ap (λ ns. all_added (distinct (map (name_at ns) (row a.hard n))) (hidden_in (entry_of a n))) same.names
      ∙ ap (λ h. all_added (distinct (map (name_at b.names) (row h n))) (hidden_in (entry_of a n))) same.hard
      ∙ ap (λ e. all_added (distinct (map (name_at b.names) (row b.hard n))) (hidden_in e)) (same.entry n)

  words_in_both : (target : Target) (reason : Reason) (gone : Option ℕ) → words_by a n target reason gone ≡ words_by b n target reason gone
  words_in_both target reason None = refl
  words_in_both target reason (Some number) = ap (λ ns. codes "gone: " ++ encode_utf8_all (lossy_chars (name_at ns number))) names_in_both

  commands_in_both : commands_of a n ≡ commands_of b n
  commands_in_both = ap (λ e. option_map_or (λ (entry : Entry). entry.commands) e []) (same.entry n)

  change_in_both : (target : Target) (r : Reason) → change_of a n target r ≡ change_of b n target r
  change_in_both target reason.NoEntry = refl
  change_in_both target reason.WasBegun = refl
  change_in_both target reason.WasFailed = refl
  change_in_both target reason.CommandsChanged = ap (λ was. changed_commands was target.commands.now) commands_in_both
  change_in_both target reason.PrerequisitesChanged =
      ap (λ ns. changed_names ns (entry_of a n)) same_once ∙ ap (changed_names (once_of b n)) (same.entry n)
  change_in_both target reason.Absent = refl
  change_in_both target reason.TargetChanged = refl
  change_in_both target (reason.Newer i) = refl
  change_in_both target (reason.Changed i) = refl
  change_in_both target (reason.HiddenGone i) = refl
  change_in_both target (reason.Remade i) = refl

  why_in : (keeping : Bool) (target : Target) (why : Why) → IsWhy keeping a n target why → IsWhy keeping b n target why
  why_in keeping target why is = record {
    first = subst (λ e. IsFirstReason keeping e target why.reason) (same.entry n) is.first;
    words = is.words ∙ words_in_both target why.reason (gone_number target.prerequisites.now why.reason);
    change = is.change ∙ change_in_both target why.reason;
  }

  told_in_both : (why : Why) (lines : List Line) → to_make (name_at a.names n) why lines ≡ to_make (name_at b.names n) why lines
  told_in_both why lines = ap (λ ns. to_make (name_at ns n) why lines) same.names

-- a node is passed in the one as in the other
pub passes_in : (a b : Graph) → AreAlike a b → (keeping : Bool) (marks : List Bool) (n : ℕ) (remade : Bool) (told : List Passage) →
    Passes keeping a marks n remade told → Passes keeping b marks n remade told
passes_in a b same keeping marks n _ _ (is_to_be_run recipe lines target why is_r are is_t is_w) =
    subst (λ passage. Passes keeping b marks n true (passage ∷ [])) (sym (told_in_both a b same marks n why lines))
    (is_to_be_run recipe lines target why (sym (same.recipe n) ∙ is_r) (lines_in a b same marks n recipe lines are)
    (target_in a b same marks n lines target is_t) (why_in a b same marks n keeping target why is_w))
passes_in a b same keeping marks n _ _ (is_up_to_date recipe lines target is_r are is_t up) =
    subst (λ ns. Passes keeping b marks n false (finished (name_at ns n) ∷ [])) (sym same.names)
    (is_up_to_date recipe lines target (sym (same.recipe n) ∙ is_r) (lines_in a b same marks n recipe lines are) (target_in a b same marks n lines target is_t)
    (λ out. up (subst (λ e. IsOutOfDate keeping e target) (sym (same.entry n)) out)))
passes_in a b same keeping marks n _ _ (has_no_recipe none ends) = has_no_recipe (sym (same.recipe n) ∙ none) (ends_in a b same marks n ends)
passes_in a b same keeping marks n _ _ (is_left none stays) =
    is_left (sym (same.recipe n) ∙ none) (λ ends. stays (ends_in b a (turned a b same) marks n ends))
