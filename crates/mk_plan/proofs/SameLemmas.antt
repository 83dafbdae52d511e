-- What the state, the marks and the graph say of a node is one thing: its names, its lines, its target and how it is passed.
use mathlib.Core.Path.{fun_ext}
use Rattle.std.specs.Prelude.{◌↔◌, ◌==◌, IsTrue, IsSomeAnd, is_none, slice_get, option_map, codes, encode_utf8_all, if◌then◌else◌}
use Rattle.std.specs.List.{join_with_byte}
use Rattle.std.specs.Str.{is_utf8}
use Rattle.std.proofs.Common.{◌≡◌, ◌≢◌, ◌⊎◌, ◌∙◌, ℕ, Bool, true, false, not, ◌&&◌, List, [], ◌∷◌, ◌++◌, map, Option, Some, None, refl, sym, ap, subst}
use Rattle.std.proofs.lemmas.Option.{same_Some, slice_get-map}
use Rattle.bstr.specs.Utf8.{lossy_chars}
use Rattle.mk_names.specs.Names.{name_at}
use Rattle.mk_macros.specs.Words.{to_directory, to_file, changed_words}
use Rattle.mk_macros.specs.Dynamic.{words_in, whole_value, recipe_value}
use Rattle.mk_profile.specs.declared.profile.Profile.{Profile}
use Rattle.mk_macros.specs.Expansion.{Meaning, Meanings, gives}
use Rattle.mk_macros.specs.Ranks.{Defined, defined_by, in_force, meaning_from}
use Rattle.mk_macros.specs.declared.dynamic.RecipeNames.{RecipeNames}
use Rattle.mk_macros.proofs.OutcomeLemmas.{expands_once}
use Rattle.mk_reader.specs.declared.item.RecipeLine.{RecipeLine}
use Rattle.mk_recipe.specs.Line.{IsLine, IsExempt, IsAlwaysRun}
use Rattle.mk_recipe.specs.declared.line.Line.{Line}
use Rattle.mk_recipe.proofs.RecordedLemmas.{same_records}
use Rattle.mk_verdict.specs.Marks.{mark_of, Differs, IsTimed}
use Rattle.mk_verdict.specs.Told.{name_in}
use Rattle.mk_verdict.specs.Verdict.{HasReplaced, IsLater, NamesOthers, Holds, IsFirstReason, IsOutOfDate}
use Rattle.mk_verdict.specs.declared.verdict.Prerequisite.{Prerequisite}
use Rattle.mk_verdict.specs.declared.verdict.Target.{Target}
use Rattle.mk_verdict.specs.declared.verdict.Reason.{Reason}
use Rattle.mk_verdict.specs.declared.verdict.Reason.TheVariants as reason
use Rattle.mk_verdict.specs.declared.verdict.Verdict.TheVariants.{OutOfDate}
use Rattle.mk_verdict.proofs.VerdictLemmas.{same_verdict}
use Rattle.mk_rule_lines.specs.declared.rule_line.RuleLine.{RuleLine}
use Rattle.mk_nodes.specs.declared.graph.Graph.{Graph}
use Rattle.st_records.specs.declared.record.Entry.{Entry}
use Rattle.mk_seen.specs.Nodes.{entry_of}
use Rattle.mk_seen.specs.Seen.{Seen, shown}
use Rattle.mk_plan.specs.PartWords.{hard_in}
use Rattle.mk_plan.specs.Parts.{recipe_of}
use Rattle.mk_plan.specs.Recipe.{IsExpandedLine, AreExpanded, AreNames, recipe_meaning, AreLinesIn, AreLinesOf}
use Rattle.mk_plan.specs.Target.{IsTargetOf}
use Rattle.mk_plan.specs.Change.{change_of, changed_commands, changed_file, changed_files, changed_prerequisite, commands_of, no_change}
use Rattle.mk_plan.specs.declared.change.Change.{Change}
use Rattle.mk_plan.specs.Passage.{Passage, to_make}
use Rattle.mk_plan.specs.Passing.{Passes, is_to_be_run, is_up_to_date, has_no_recipe, is_left}
use Rattle.mk_plan.specs.Why.{IsWhy, is_none_left, words_by, words_of}
use Rattle.mk_plan.specs.declared.why.Why.{Why}
use Rattle.mk_plan.proofs.NodeLemmas.{same_newer}

-- ---- one meaning

abbrev whole_from : (target source stem : List ℕ) (newer : List (List ℕ)) (once repeated order_only : Option (List (List ℕ))) (sign : ℕ) → Option (List ℕ)
whole_from target source stem newer once repeated order_only sign =
    if sign == 64 then Some target
    else (if sign == 60 then Some source
    else (if sign == 42 then Some stem
    else (if sign == 63 then Some (join_with_byte 32 newer)
    else (if sign == 94 then option_map (join_with_byte 32) once
    else (if sign == 43 then option_map (join_with_byte 32) repeated
    else (if sign == 124 then option_map (join_with_byte 32) order_only
    else None))))))

abbrev part_from : (whole : Option (List ℕ)) (part : ℕ) → Option (List ℕ)
part_from whole part =
    if part == 68 then option_map (changed_words to_directory) whole
    else (if part == 70 then option_map (changed_words to_file) whole
    else None)

abbrev in_language : Profile → (List ℕ → Meaning) → Meanings
in_language profile meaning = record { language = profile; meaning = meaning }

module _ (graph : Graph) (marks : List Bool) (n : ℕ) (l : RuleLine) (a b : RecipeNames) (of_a : AreNames graph marks n l a) (of_b : AreNames graph marks n l b) where
  same_whole : (sign : ℕ) → whole_value a sign ≡ whole_value b sign
  same_whole sign =
      ap (λ t. whole_from t a.source.now a.stem.now (map (λ word. word.now) a.newer.now) (words_in a.once) (words_in a.repeated) (words_in a.order_only) sign) (of_a.target ∙ sym of_b.target)
      ∙ ap (λ s. whole_from b.target.now s a.stem.now (map (λ word. word.now) a.newer.now) (words_in a.once) (words_in a.repeated) (words_in a.order_only) sign) (of_a.source ∙ sym of_b.source)
      ∙ ap (λ s. whole_from b.target.now b.source.now s (map (λ word. word.now) a.newer.now) (words_in a.once) (words_in a.repeated) (words_in a.order_only) sign) (of_a.stem ∙ sym of_b.stem)
      ∙ ap (λ ws. whole_from b.target.now b.source.now b.stem.now ws (words_in a.once) (words_in a.repeated) (words_in a.order_only) sign)
      (same_newer graph marks n (hard_in graph n l) _ _ of_a.newer of_b.newer)
      ∙ ap (λ ws. whole_from b.target.now b.source.now b.stem.now (map (λ word. word.now) b.newer.now) ws (words_in a.repeated) (words_in a.order_only) sign) (of_a.once ∙ sym of_b.once)
      ∙ ap (λ ws. whole_from b.target.now b.source.now b.stem.now (map (λ word. word.now) b.newer.now) (words_in b.once) ws (words_in a.order_only) sign) (of_a.repeated ∙ sym of_b.repeated)
      ∙ ap (λ ws. whole_from b.target.now b.source.now b.stem.now (map (λ word. word.now) b.newer.now) (words_in b.once) (words_in b.repeated) ws sign) (of_a.order_only ∙ sym of_b.order_only)

  same_value : (name : List ℕ) → recipe_value a name ≡ recipe_value b name
  same_value [] = refl
  same_value (sign ∷ []) = same_whole sign
  same_value (sign ∷ part ∷ []) = ap (λ whole. part_from whole part) (same_whole sign)
  same_value (sign ∷ part ∷ c ∷ cs) = refl

  pub same_meaning : recipe_meaning graph a ≡ recipe_meaning graph b
  same_meaning =
      let given : Defined = defined_by graph.macros in
      let each : (λ (name : List ℕ). meaning_from (recipe_value a name) (in_force (given.ranks name))) ≡ (λ (name : List ℕ). meaning_from (recipe_value b name) (in_force (given.ranks name))) =
      fun_ext (λ name. ap (λ value. meaning_from value (in_force (given.ranks name))) (same_value name)) in
      ap (in_language given.language) each

-- ---- one list of lines

same_tests : (P : Type 0) (a b : Bool) → IsTrue a ↔ P → IsTrue b ↔ P → a ≡ b
same_tests P true true of_a of_b = refl
same_tests P false false of_a of_b = refl
same_tests P true false of_a of_b = let yes : false ≡ true = of_b.1 (of_a.0 refl) in cc
same_tests P false true of_a of_b = let yes : false ≡ true = of_a.1 (of_b.0 refl) in cc

same_line : (profile : Profile) (raw : RecipeLine) (expansion : List ℕ) (a b : Line) → IsLine profile raw.text expansion a → IsLine profile raw.text expansion b → a ≡ b
same_line profile raw expansion a b of_a of_b =
    let text : a.text ≡ b.text = of_a.text ∙ sym of_b.text in
    let printed : a.is_printed ≡ b.is_printed = of_a.printed ∙ sym of_b.printed in
    let ignored : a.is_ignored ≡ b.is_ignored = of_a.ignored ∙ sym of_b.ignored in
    let exempt : a.is_exempt ≡ b.is_exempt = same_tests (IsExempt profile raw.text expansion) a.is_exempt b.is_exempt of_a.exempt of_b.exempt in
    let always : a.is_always_run ≡ b.is_always_run = same_tests (IsAlwaysRun profile raw.text expansion) a.is_always_run b.is_always_run of_a.always of_b.always in
    let first : a ≡ record a { text = b.text } = ap (λ t. record a { text = t }) text in
    let second : record a { text = b.text } ≡ record a { text = b.text; is_printed = b.is_printed } =
    ap (λ p. record a { text = b.text; is_printed = p }) printed in
    let third : record a { text = b.text; is_printed = b.is_printed }
    ≡ record a { text = b.text; is_printed = b.is_printed; is_ignored = b.is_ignored } =
    ap (λ i. record a { text = b.text; is_printed = b.is_printed; is_ignored = i }) ignored in
    let fourth : record a { text = b.text; is_printed = b.is_printed; is_ignored = b.is_ignored }
    ≡ record a { text = b.text; is_printed = b.is_printed; is_ignored = b.is_ignored; is_exempt = b.is_exempt } =
    ap (λ x. record a { text = b.text; is_printed = b.is_printed; is_ignored = b.is_ignored; is_exempt = x }) exempt in
    let fifth : record a { text = b.text; is_printed = b.is_printed; is_ignored = b.is_ignored; is_exempt = b.is_exempt } ≡ b =
    ap (λ r. record a { text = b.text; is_printed = b.is_printed; is_ignored = b.is_ignored; is_exempt = b.is_exempt; is_always_run = r }) always in
    first ∙ second ∙ third ∙ fourth ∙ fifth

same_expanded : (meanings : Meanings) (raw : RecipeLine) (a b : Line) → IsExpandedLine meanings raw a → IsExpandedLine meanings raw b → a ≡ b
same_expanded meanings raw a b of_a of_b =
    let given : gives of_a.expansion ≡ gives of_b.expansion = expands_once meanings of_a.expands of_b.expands in
    let same : of_a.expansion ≡ of_b.expansion = cc in
    same_line meanings.language raw of_b.expansion a b (subst (λ e. IsLine meanings.language raw.text e a) same of_a.is_line) of_b.is_line

same_lines : (meanings : Meanings) (recipe : List RecipeLine) (a b : List Line) → AreExpanded meanings recipe a → AreExpanded meanings recipe b → a ≡ b
same_lines meanings [] [] [] of_a of_b = refl
same_lines meanings [] [] (y ∷ b) of_a of_b = absurd of_b
same_lines meanings [] (x ∷ a) b of_a of_b = absurd of_a
same_lines meanings (raw ∷ recipe) [] b of_a of_b = absurd of_a
same_lines meanings (raw ∷ recipe) (x ∷ a) [] of_a of_b = absurd of_b
same_lines meanings (raw ∷ recipe) (x ∷ a) (y ∷ b) of_a of_b =
    ap (λ l. l ∷ a) (same_expanded meanings raw x y of_a.0 of_b.0) ∙ ap (λ ls. y ∷ ls) (same_lines meanings recipe a b of_a.1 of_b.1)

part_alike : (graph : Graph) (marks : List Bool) (n : ℕ) (l : RuleLine) (a b : List Line) → AreLinesIn graph marks n l a → AreLinesIn graph marks n l b → a ≡ b
part_alike graph marks n l a b of_a of_b =
    same_lines (recipe_meaning graph of_b.names) l.recipe a b
    (subst (λ m. AreExpanded m l.recipe a) (same_meaning graph marks n l of_a.names of_b.names of_a.are_names of_b.are_names) of_a.expanded) of_b.expanded

lines_alike : (graph : Graph) (marks : List Bool) (n : ℕ) (recipe : List RuleLine) (a b : List Line) →
    AreLinesOf graph marks n recipe a → AreLinesOf graph marks n recipe b → a ≡ b
lines_alike graph marks n [] a b of_a of_b = of_a ∙ sym of_b
lines_alike graph marks n (l ∷ parts) a b (own, rest, of_line, more, is) (own', rest', of_line', more', is') =
    is ∙ ap (λ ls. ls ++ rest) (part_alike graph marks n l own own' of_line of_line')
    ∙ ap (λ ls. own' ++ ls) (lines_alike graph marks n parts rest rest' more more') ∙ sym is'

-- ---- one target, as far as it is judged

at_shown : (P : Seen → Type 0) (o : Option Prerequisite) → IsSomeAnd o (λ p. P (shown p)) → IsSomeAnd (option_map shown o) P
at_shown P None h = h
at_shown P (Some p) h = h

of_shown : (P : Seen → Type 0) (o : Option Prerequisite) → IsSomeAnd (option_map shown o) P → IsSomeAnd o (λ p. P (shown p))
of_shown P None h = h
of_shown P (Some p) h = h

prerequisite_alike : (P : Seen → Type 0) (ps qs : List Prerequisite) (i : ℕ) → map shown ps ≡ map shown qs →
    IsSomeAnd (slice_get ps i) (λ p. P (shown p)) → IsSomeAnd (slice_get qs i) (λ p. P (shown p))
prerequisite_alike P ps qs i same h =
    of_shown P (slice_get qs i)
    (subst (λ o. IsSomeAnd o P) (sym (slice_get-map shown ps i) ∙ ap (λ xs. slice_get xs i) same ∙ slice_get-map shown qs i)
    (at_shown P (slice_get ps i) h))

module _ (keeping : Bool) (entry : Option Entry) (a b : Target) (commands : a.commands.now ≡ b.commands.now) (explicit : a.explicit.now ≡ b.explicit.now)
    (stamp : a.stamp ≡ b.stamp) (prerequisites : map shown a.prerequisites.now ≡ map shown b.prerequisites.now)
    (ordered : a.orders_hidden ≡ b.orders_hidden) (source : a.source_changed ≡ b.source_changed) (files : a.files.now ≡ b.files.now) where
  holds_alike : (r : Reason) → Holds keeping entry a r → Holds keeping entry b r
  holds_alike reason.NoEntry h = h
  holds_alike reason.WasBegun h = h
  holds_alike reason.WasFailed h = h
  holds_alike reason.CommandsChanged h = (h.0, subst (λ cs. IsSomeAnd entry (λ e. e.commands ≢ cs)) commands h.1)
  holds_alike reason.PrerequisitesChanged h = (
    h.0,
    subst (λ ns. IsSomeAnd entry (λ e. IsTrue b.source_changed ⊎ NamesOthers ns e)) explicit
        (subst (λ s. IsSomeAnd entry (λ e. IsTrue s ⊎ NamesOthers a.explicit.now e)) source h.1),
  )
  holds_alike reason.Absent h = sym stamp ∙ h
  holds_alike reason.TargetChanged h = subst (HasReplaced keeping) files h
  holds_alike (reason.Newer i) h =
      subst (λ s. IsSomeAnd (slice_get b.prerequisites.now i) (λ p. IsTimed (mark_of keeping p.mark) × IsLater p.stamp s)) stamp
      (prerequisite_alike (λ s. IsTimed (mark_of keeping s.mark) × IsLater s.stamp a.stamp) a.prerequisites.now b.prerequisites.now i prerequisites h)
  holds_alike (reason.Changed i) h =
      prerequisite_alike (λ s. Differs (mark_of keeping s.mark) s.look) a.prerequisites.now b.prerequisites.now i prerequisites h
  holds_alike (reason.HiddenGone i) h = (
    h.0,
    prerequisite_alike
        (λ s. IsTrue s.is_hidden × (((s.stamp ≡ None) × (s.has_rule ≡ false)) ⊎ (is_utf8 s.name ≡ false)))
        a.prerequisites.now b.prerequisites.now i prerequisites h.1,
  )
  holds_alike (reason.Remade i) h =
      subst (λ o. IsSomeAnd (slice_get b.prerequisites.now i) (λ p. IsTrue p.is_remade × (IsTrue p.is_hidden → IsTrue o))) ordered
      (prerequisite_alike (λ s. IsTrue s.is_remade × (IsTrue s.is_hidden → IsTrue a.orders_hidden)) a.prerequisites.now b.prerequisites.now i prerequisites h)

shown_name : Option Seen → List ℕ
shown_name None = []
shown_name (Some s) = s.name

by_shown : (o : Option Prerequisite) → name_in o ≡ shown_name (option_map shown o)
unfolding shown_name
by_shown None = refl
by_shown (Some p) = refl

name_alike : (ps qs : List Prerequisite) (i : ℕ) → map shown ps ≡ map shown qs → name_in (slice_get ps i) ≡ name_in (slice_get qs i)
name_alike ps qs i same =
    by_shown (slice_get ps i)
    ∙ ap shown_name (sym (slice_get-map shown ps i) ∙ ap (λ xs. slice_get xs i) same ∙ slice_get-map shown qs i)
    ∙ sym (by_shown (slice_get qs i))

abbrev shown_left : Option Seen → Bool
shown_left None = false
shown_left (Some s) = is_none s.stamp && not s.has_rule

left_by_shown : (p : Option Prerequisite) → is_none_left p ≡ shown_left (option_map shown p)
left_by_shown None = refl
left_by_shown (Some p) = refl

left_alike : (ps qs : List Prerequisite) (i : ℕ) → map shown ps ≡ map shown qs → is_none_left (slice_get ps i) ≡ is_none_left (slice_get qs i)
left_alike ps qs i same =
    left_by_shown (slice_get ps i)
    ∙ ap shown_left (sym (slice_get-map shown ps i) ∙ ap (λ xs. slice_get xs i) same ∙ slice_get-map shown qs i)
    ∙ sym (left_by_shown (slice_get qs i))

abbrev shown_change : Option Seen → Change
shown_change None = no_change
shown_change (Some s) = changed_file s.mark s.look

change_by_shown : (p : Option Prerequisite) → changed_prerequisite p ≡ shown_change (option_map shown p)
change_by_shown None = refl
change_by_shown (Some p) = refl

file_alike : (ps qs : List Prerequisite) (i : ℕ) → map shown ps ≡ map shown qs → changed_prerequisite (slice_get ps i) ≡ changed_prerequisite (slice_get qs i)
file_alike ps qs i same =
    change_by_shown (slice_get ps i)
    ∙ ap shown_change (sym (slice_get-map shown ps i) ∙ ap (λ xs. slice_get xs i) same ∙ slice_get-map shown qs i)
    ∙ sym (change_by_shown (slice_get qs i))

same_out_of_date : (r s : Reason) → OutOfDate r ≡ OutOfDate s → r ≡ s
same_out_of_date r s same = cc

same_why : (v w : Why) → v.reason ≡ w.reason → v.words ≡ w.words → v.change ≡ w.change → v ≡ w
same_why v w reasons words changes =
    let first : v ≡ record v { reason = w.reason } = ap (λ r. record v { reason = r }) reasons in
    let second : record v { reason = w.reason } ≡ record v { reason = w.reason; words = w.words } =
    ap (λ ws. record v { reason = w.reason; words = ws }) words in
    let third : record v { reason = w.reason; words = w.words } ≡ w =
    ap (λ c. record v { reason = w.reason; words = w.words; change = c }) changes in
    first ∙ second ∙ third

-- ---- one reason

module _ (keeping : Bool) (graph : Graph) (marks : List Bool) (n : ℕ) (lines : List Line) (a b : Target)
    (of_a : IsTargetOf graph marks n lines a) (of_b : IsTargetOf graph marks n lines b) where
  commands : a.commands.now ≡ b.commands.now
  commands = same_records lines a.commands.now b.commands.now of_a.commands of_b.commands

  prerequisites : map shown a.prerequisites.now ≡ map shown b.prerequisites.now
  prerequisites = of_a.prerequisites ∙ sym of_b.prerequisites

  there : (r : Reason) → Holds keeping (entry_of graph n) a r → Holds keeping (entry_of graph n) b r
  there =
      holds_alike keeping (entry_of graph n) a b commands (of_a.explicit ∙ sym of_b.explicit) (of_a.stamp ∙ sym of_b.stamp)
      prerequisites (of_a.ordered ∙ sym of_b.ordered) (of_a.source ∙ sym of_b.source) (of_a.files ∙ sym of_b.files)

  back : (r : Reason) → Holds keeping (entry_of graph n) b r → Holds keeping (entry_of graph n) a r
  back =
      holds_alike keeping (entry_of graph n) b a (sym commands) (of_b.explicit ∙ sym of_a.explicit) (of_b.stamp ∙ sym of_a.stamp)
      (sym prerequisites) (of_b.ordered ∙ sym of_a.ordered) (of_b.source ∙ sym of_a.source) (of_b.files ∙ sym of_a.files)

  out_of_date_alike : IsOutOfDate keeping (entry_of graph n) a → IsOutOfDate keeping (entry_of graph n) b
  out_of_date_alike (r, holds) = (r, there r holds)

  first_alike : (r : Reason) → IsFirstReason keeping (entry_of graph n) a r → IsFirstReason keeping (entry_of graph n) b r
  first_alike r is = record { holds = there r is.holds; first = λ other holds. is.first other (back other holds) }

  abbrev changed_words_by : Target → (i : ℕ) → (left : Bool) → List ℕ
  changed_words_by target i left = words_by graph n target (reason.Changed i) (if left then Some i else None)

  changed_alike : (i : ℕ) (left : Bool) → changed_words_by a i left ≡ changed_words_by b i left
  changed_alike i true = refl
  changed_alike i false =
      ap (λ name. codes "changed: " ++ encode_utf8_all (lossy_chars name)) (name_alike a.prerequisites.now b.prerequisites.now i prerequisites)

  words_alike : (r : Reason) → words_of graph n a r ≡ words_of graph n b r
  words_alike reason.NoEntry = refl
  words_alike reason.WasBegun = refl
  words_alike reason.WasFailed = refl
  words_alike reason.CommandsChanged = refl
  words_alike reason.PrerequisitesChanged = refl
  words_alike reason.Absent = refl
  words_alike reason.TargetChanged = refl
  words_alike (reason.Newer i) =
      ap (λ name. codes "newer: " ++ encode_utf8_all (lossy_chars name)) (name_alike a.prerequisites.now b.prerequisites.now i prerequisites)
  words_alike (reason.Changed i) =
      ap (changed_words_by a i) (left_alike a.prerequisites.now b.prerequisites.now i prerequisites)
      ∙ changed_alike i (is_none_left (slice_get b.prerequisites.now i))
  words_alike (reason.HiddenGone i) = refl
  words_alike (reason.Remade i) =
      ap (λ name. codes "remade: " ++ encode_utf8_all (lossy_chars name)) (name_alike a.prerequisites.now b.prerequisites.now i prerequisites)

  change_alike : (r : Reason) → change_of graph n a r ≡ change_of graph n b r
  change_alike reason.NoEntry = refl
  change_alike reason.WasBegun = refl
  change_alike reason.WasFailed = refl
  change_alike reason.CommandsChanged = ap (changed_commands (commands_of graph n)) commands
  change_alike reason.PrerequisitesChanged = refl
  change_alike reason.Absent = refl
  change_alike reason.TargetChanged = ap changed_files (of_a.files ∙ sym of_b.files)
  change_alike (reason.Newer i) = refl
  change_alike (reason.Changed i) = file_alike a.prerequisites.now b.prerequisites.now i prerequisites
  change_alike (reason.HiddenGone i) = refl
  change_alike (reason.Remade i) = refl

  why_alike : (v w : Why) → IsWhy keeping graph n a v → IsWhy keeping graph n b w → v ≡ w
  why_alike v w is_v is_w =
      let reasons : v.reason ≡ w.reason =
      same_out_of_date v.reason w.reason
      (same_verdict keeping (entry_of graph n) b (OutOfDate v.reason) (OutOfDate w.reason) (first_alike v.reason is_v.first) is_w.first) in
      same_why v w reasons (is_v.words ∙ words_alike v.reason ∙ ap (words_of graph n b) reasons ∙ sym is_w.words)
      (is_v.change ∙ change_alike v.reason ∙ ap (change_of graph n b) reasons ∙ sym is_w.change)

-- ---- one way to pass it

module _ (keeping : Bool) (graph : Graph) (marks : List Bool) (n : ℕ) where
  same_recipe : (r s : List RuleLine) → recipe_of graph n ≡ Some r → recipe_of graph n ≡ Some s → r ≡ s
  same_recipe r s is_r is_s = same_Some r s (sym is_r ∙ is_s)

  lines_of_recipes : (r s : List RuleLine) (a b : List Line) → recipe_of graph n ≡ Some r → recipe_of graph n ≡ Some s →
      AreLinesOf graph marks n r a → AreLinesOf graph marks n s b → a ≡ b
  lines_of_recipes r s a b is_r is_s of_a of_b =
      lines_alike graph marks n s a b (subst (λ recipe. AreLinesOf graph marks n recipe a) (same_recipe r s is_r is_s) of_a) of_b

  same_listed : (a b : List Line) (t u : Target) (v w : Why) → a ≡ b → IsTargetOf graph marks n a t → IsTargetOf graph marks n b u →
      IsWhy keeping graph n t v → IsWhy keeping graph n u w →
      to_make (name_at graph.names n) v a ∷ [] ≡ to_make (name_at graph.names n) w b ∷ []
  same_listed a b t u v w same is_t is_u is_v is_w =
      let whys : v ≡ w = why_alike keeping graph marks n b t u (subst (λ ls. IsTargetOf graph marks n ls t) same is_t) is_u v w is_v is_w in
      ap (λ ls. to_make (name_at graph.names n) v ls ∷ []) same
      ∙ ap (λ why. to_make (name_at graph.names n) why b ∷ []) whys

  not_both : (r s : List RuleLine) (a b : List Line) (t u : Target) (v : Why) → recipe_of graph n ≡ Some r → recipe_of graph n ≡ Some s →
      AreLinesOf graph marks n r a → AreLinesOf graph marks n s b → IsTargetOf graph marks n a t → IsTargetOf graph marks n b u →
      IsWhy keeping graph n t v → (IsOutOfDate keeping (entry_of graph n) u → ⊥) → ⊥
  not_both r s a b t u v is_r is_s of_a of_b is_t is_u is_v up =
      up (out_of_date_alike keeping graph marks n b t u
      (subst (λ ls. IsTargetOf graph marks n ls t) (lines_of_recipes r s a b is_r is_s of_a of_b) is_t) is_u (v.reason, is_v.first.holds))

  no_recipe : (r : List RuleLine) → recipe_of graph n ≡ Some r → recipe_of graph n ≡ None → ⊥
  no_recipe r is none = let both : Some r ≡ None = sym is ∙ none in absurd cc

  pub passes_once : (p q : Bool) (a b : List Passage) → Passes keeping graph marks n p a → Passes keeping graph marks n q b → (p ≡ q) × (a ≡ b)
  passes_once p q a b (is_to_be_run r ls t v is_r of_ls is_t is_v) (is_to_be_run s ms u w is_s of_ms is_u is_w) =
      (refl, same_listed ls ms t u v w (lines_of_recipes r s ls ms is_r is_s of_ls of_ms) is_t is_u is_v is_w)
  passes_once p q a b (is_to_be_run r ls t v is_r of_ls is_t is_v) (is_up_to_date s ms u is_s of_ms is_u up) =
      absurd (not_both r s ls ms t u v is_r is_s of_ls of_ms is_t is_u is_v up)
  passes_once p q a b (is_to_be_run r ls t v is_r of_ls is_t is_v) (has_no_recipe none ends) = absurd (no_recipe r is_r none)
  passes_once p q a b (is_to_be_run r ls t v is_r of_ls is_t is_v) (is_left none stays) = absurd (no_recipe r is_r none)
  passes_once p q a b (is_up_to_date r ls t is_r of_ls is_t up) (is_to_be_run s ms u w is_s of_ms is_u is_w) =
      absurd (not_both s r ms ls u t w is_s is_r of_ms of_ls is_u is_t is_w up)
  passes_once p q a b (is_up_to_date r ls t is_r of_ls is_t up) (is_up_to_date s ms u is_s of_ms is_u up') = (refl, refl)
  passes_once p q a b (is_up_to_date r ls t is_r of_ls is_t up) (has_no_recipe none ends) = absurd (no_recipe r is_r none)
  passes_once p q a b (is_up_to_date r ls t is_r of_ls is_t up) (is_left none stays) = absurd (no_recipe r is_r none)
  passes_once p q a b (has_no_recipe none ends) (is_to_be_run s ms u w is_s of_ms is_u is_w) = absurd (no_recipe s is_s none)
  passes_once p q a b (has_no_recipe none ends) (is_up_to_date s ms u is_s of_ms is_u up) = absurd (no_recipe s is_s none)
  passes_once p q a b (has_no_recipe none ends) (has_no_recipe none' ends') = (refl, refl)
  passes_once p q a b (has_no_recipe none ends) (is_left none' stays) = absurd (stays ends)
  passes_once p q a b (is_left none stays) (is_to_be_run s ms u w is_s of_ms is_u is_w) = absurd (no_recipe s is_s none)
  passes_once p q a b (is_left none stays) (is_up_to_date s ms u is_s of_ms is_u up) = absurd (no_recipe s is_s none)
  passes_once p q a b (is_left none stays) (has_no_recipe none' ends) = absurd (stays ends)
  passes_once p q a b (is_left none stays) (is_left none' stays') = (refl, refl)
