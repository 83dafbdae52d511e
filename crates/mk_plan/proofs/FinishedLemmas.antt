-- A node that the tests find up to date is.
use Rattle.std.specs.Prelude.{IsSomeAnd, if◌then◌else◌, slice_get, is_none, is_some, option_map}
use Rattle.std.specs.Bool.{OnTrue}
use Rattle.std.specs.List.{list_all}
use Rattle.std.specs.Option.{option_map_or}
use Rattle.std.specs.Str.{bytes_eq, is_utf8}
use Rattle.std.proofs.Common.{◌≡◌, ◌∙◌, ℕ, zero, suc, ℤ, Bool, true, false, not, ◌&&◌, ◌||◌, List, [], ◌∷◌, ◌++◌, map, Option, Some, None, refl, sym, ap, subst, inl, inr, Result, Ok, Err, IfOk, ◌≢◌}
use Rattle.std.proofs.lemmas.List.{append-nil}
use Rattle.std.proofs.lemmas.List.Folds.{list_all-append, list_all-map}
use Rattle.std.proofs.lemmas.Slice.Eq.{bytes_eq-Decides}
use Rattle.mk_graph.specs.Edges.{row}
use Rattle.mk_names.specs.Names.{name_at}
use Rattle.mk_marks.specs.declared.kept.Kept.{Kept}
use Rattle.mk_marks.specs.declared.noted.Noted.{Noted}
use Rattle.mk_recipe.proofs.RecordedLemmas.{recorded_by}
use Rattle.mk_recipe.specs.Line.{Records}
use Rattle.mk_makefile.specs.Doubles.{double_lines}
use Rattle.mk_rule_lines.specs.declared.rule_line.RuleLine.{RuleLine}
use Rattle.mk_nodes.specs.declared.graph.Graph.{Graph}
use Rattle.mk_verdict.proofs.MarkLemmas.{differs_decides}
use Rattle.mk_verdict.proofs.ReasonLemmas.{is_newer-decides, is_changed-decides, is_gone-decides, counts_as_remade-decides}
use Rattle.mk_verdict.specs.Marks.{mark_of, Differs}
use Rattle.mk_verdict.specs.Tests.{is_newer, is_changed, is_replaced, is_gone, counts_as_remade}
use Rattle.mk_verdict.specs.Verdict.{HasFailed, HasOtherNames, HasReplaced, IsGone, IsNewer, IsRemade, Holds}
use Rattle.mk_verdict.specs.declared.mark.Look.{Look}
use Rattle.mk_verdict.specs.declared.mark.Look.TheVariants.{NoFile}
use Rattle.mk_verdict.specs.declared.mark.MadeFile.{MadeFile}
use Rattle.mk_verdict.specs.declared.mark.Mark.{Mark}
use Rattle.mk_verdict.specs.declared.verdict.Prerequisite.{Prerequisite}
use Rattle.mk_verdict.specs.declared.verdict.Reason.{Reason}
use Rattle.mk_verdict.specs.declared.verdict.Reason.TheVariants.{NoEntry, WasBegun, WasFailed, CommandsChanged, PrerequisitesChanged, Absent, TargetChanged, Newer, Changed, HiddenGone, Remade}
use Rattle.mk_verdict.specs.declared.verdict.Target.{Target}
use Rattle.mk_seen.proofs.MarkLemmas.{noted_at}
use Rattle.mk_seen.specs.Leaving.{leaves_hard, leaves_hidden, leaves_made, leaves_prerequisites, has_text_name, leaves_all, is_explicit, is_done, is_kept}
use Rattle.mk_seen.specs.Marks.{looks_made, with_marks, marks_behind, noted_in, noted_of, compared_in, compared_of, marks_of, made_file, files_of, hard_marked, hidden_marked}
use Rattle.mk_seen.specs.Names.{are_same}
use Rattle.mk_seen.specs.Nodes.{stamp_of, made_of, entry_of, hidden_of, explicit_of, is_marked}
use Rattle.mk_seen.specs.Seen.{Seen, shown, seen_hard, seen_hidden, seen_of}
use Rattle.mk_plan.specs.Finished.{PartGives}
use Rattle.mk_plan.specs.Parts.{language_of, is_part, parts_of, recipe_line, recipe_of}
use Rattle.mk_plan.specs.Passage.{finished}
use Rattle.mk_plan.specs.Passing.{Passes, is_up_to_date}
use Rattle.st_records.specs.declared.record.Entry.{Entry}
use Rattle.st_records.specs.Parts.{names_recorded}
use Rattle.st_records.specs.declared.record.Phase.{Phase}
use Rattle.st_records.specs.declared.record.Phase.TheVariants as phase

-- ---- tests of each element

both : (a b : Bool) → (a && b) ≡ true → (a ≡ true) × (b ≡ true)
both true b e = (refl, e)
both false b e = absurd cc

apart : (b : Bool) → b ≡ true → not b ≡ true → ⊥
apart true e f = cc
apart false e f = cc

-- one at any place passes the test that all pass
none_at : {X : Type 0} (test : X → Bool) (P : X → Type 0) → ((x : X) → test x ≡ true → P x → ⊥) → (xs : List X) → list_all test xs ≡ true →
    (i : ℕ) → IsSomeAnd (slice_get xs i) P → ⊥
none_at test P clash [] all i h = h
none_at test P clash (x ∷ xs) all zero h = clash x (both (test x) (list_all test xs) all).0 h
none_at test P clash (x ∷ xs) all (suc i) h = none_at test P clash xs (both (test x) (list_all test xs) all).1 i h

both_true : (a b : Bool) → a ≡ true → b ≡ true → (a && b) ≡ true
both_true a b e f = rw (e, f) refl

all_weaker : {X : Type 0} (p q : X → Bool) → ((x : X) → p x ≡ true → q x ≡ true) → (xs : List X) → list_all p xs ≡ true → list_all q xs ≡ true
all_weaker p q each [] all = refl
all_weaker p q each (x ∷ xs) all =
    let (here, rest) = both (p x) (list_all p xs) all in
    both_true (q x) (list_all q xs) (each x here) (all_weaker p q each xs rest)

all_both : {X : Type 0} (p q : X → Bool) (xs : List X) → list_all p xs ≡ true → list_all q xs ≡ true → list_all (λ x. p x && q x) xs ≡ true
all_both p q [] e f = refl
all_both p q (x ∷ xs) e f =
    let (p_here, p_rest) = both (p x) (list_all p xs) e in
    let (q_here, q_rest) = both (q x) (list_all q xs) f in
    both_true (p x && q x) (list_all (λ y. p y && q y) xs) (both_true (p x) (q x) p_here q_here) (all_both p q xs p_rest q_rest)

-- what each passes, each passes with its mark
all_marked : {X : Type 0} (keeping : Bool) (q : X → Bool) (xs : List X) (kept : Kept) → (not keeping || list_all q xs) ≡ true →
    list_all (λ ((x, mark) : X × Mark). not keeping || q x) (with_marks xs kept) ≡ true
all_marked keeping q [] kept e = refl
all_marked true q (x ∷ xs) kept e =
    let (here, rest) = both (q x) (list_all q xs) e in
    both_true (q x) _ here (all_marked true q xs _ rest)
all_marked false q (x ∷ xs) kept e = all_marked false q xs _ refl

-- ---- prerequisites

abbrev as_seen : Seen → Prerequisite
as_seen s = record {
  name = record { ref_ptr = (0, 0); now = s.name };
  stamp = s.stamp;
  is_hidden = s.is_hidden;
  has_rule = s.has_rule;
  is_remade = s.is_remade;
  look = s.look;
  mark = s.mark;
}

shown_again : (seen : List Seen) → map shown (map as_seen seen) ≡ seen
shown_again [] = refl
shown_again (s ∷ seen) = ap (λ rest. s ∷ rest) (shown_again seen)

-- no reason comes of its file, and none of the prerequisite
abbrev file_quiet : (keeping : Bool) (made : Option ℤ) → Prerequisite → Bool
file_quiet keeping made p = not (is_newer keeping made p) && not (is_changed keeping p)

abbrev quiet : (keeping orders : Bool) (made : Option ℤ) → Prerequisite → Bool
quiet keeping orders made p = file_quiet keeping made p && (not (keeping && is_gone p) && not (counts_as_remade orders p))

hard_quiet : (file marked keeping orders : Bool) → (file && not marked) ≡ true → (file && (not (keeping && false) && not (marked && (orders || true)))) ≡ true
hard_quiet false marked keeping orders e = absurd cc
hard_quiet true true keeping orders e = absurd cc
hard_quiet true false true orders e = refl
hard_quiet true false false orders e = refl

hidden_quiet : (file absent text marked keeping orders : Bool) → ((file && not (marked && orders)) && (not keeping || text)) ≡ true →
    (file && (not (keeping && ((absent && false) || not text)) && not (marked && (orders || false)))) ≡ true
hidden_quiet false absent text marked keeping orders e = absurd cc
hidden_quiet true absent text true keeping true e = absurd cc
hidden_quiet true absent false false true orders e = absurd cc
hidden_quiet true absent false true true false e = absurd cc
hidden_quiet true true true true true false e = refl
hidden_quiet true false true true true false e = refl
hidden_quiet true absent text true false false e = refl
hidden_quiet true true true false true orders e = refl
hidden_quiet true false true false true orders e = refl
hidden_quiet true absent text false false orders e = refl

-- a hidden prerequisite that is gone
abbrev gone : Mark → Seen
gone mark = record { name = []; stamp = None; is_hidden = true; has_rule = false; is_remade = false; look = NoFile; mark = mark }

gone_quiet : (keeping orders : Bool) (made : Option ℤ) (mark : Mark) → (not keeping && (not keeping || true)) ≡ true →
    quiet keeping orders made (as_seen (gone mark)) ≡ true
gone_quiet true orders made mark e = absurd cc
gone_quiet false orders made mark e = refl

module _ (keeping orders : Bool) (made : Option ℤ) (p : Prerequisite) (is : quiet keeping orders made p ≡ true) where
  of_file : (not (is_newer keeping made p) ≡ true) × (not (is_changed keeping p) ≡ true)
  of_file = both (not (is_newer keeping made p)) (not (is_changed keeping p)) (both (file_quiet keeping made p) _ is).0

  of_rest : (not (keeping && is_gone p) ≡ true) × (not (counts_as_remade orders p) ≡ true)
  of_rest = both (not (keeping && is_gone p)) (not (counts_as_remade orders p)) (both (file_quiet keeping made p) _ is).1

  not_newer : IsNewer keeping made p → ⊥
  not_newer newer = apart (is_newer keeping made p) ((is_newer-decides keeping made p).1 newer) of_file.0

  not_changed : Differs (mark_of keeping p.mark) p.look → ⊥
  not_changed changed = apart (is_changed keeping p) ((is_changed-decides keeping p).1 changed) of_file.1

  not_gone : keeping ≡ true → IsGone p → ⊥
  not_gone kept gone_so = apart (keeping && is_gone p) (both_true keeping (is_gone p) kept ((is_gone-decides p).1 gone_so)) of_rest.0

  not_remade : IsRemade orders p → ⊥
  not_remade remade = apart (counts_as_remade orders p) ((counts_as_remade-decides orders p).1 remade) of_rest.1

-- ---- files

made_passes : (keeping : Bool) (made : Look × Mark) → leaves_made keeping made ≡ true → not (is_replaced keeping (made_file made)) ≡ true
made_passes keeping (look, mark) e = e

not_replaced : (keeping : Bool) (f : MadeFile) → not (is_replaced keeping f) ≡ true → Differs (mark_of keeping f.mark) f.look → ⊥
not_replaced keeping f is differs = apart (is_replaced keeping f) ((differs_decides (mark_of keeping f.mark) f.look).1 differs) is

none_replaced : (keeping : Bool) (made : List (Look × Mark)) → list_all (leaves_made keeping) made ≡ true → HasReplaced keeping (map made_file made) → ⊥
none_replaced keeping made all (i, h) =
    none_at (λ f. not (is_replaced keeping f)) (λ f. Differs (mark_of keeping f.mark) f.look) (not_replaced keeping) (map made_file made)
    (list_all-map (λ f. not (is_replaced keeping f)) made_file made
    ∙ all_weaker (leaves_made keeping) (λ m. not (is_replaced keeping (made_file m))) (made_passes keeping) made all) i h

-- ---- names

same_names : (names recorded : List (List ℕ)) → are_same names recorded ≡ true → recorded ≡ names
same_names [] [] is = refl
same_names [] (r ∷ recorded) is = absurd cc
same_names (name ∷ names) [] is = absurd cc
same_names (name ∷ names) (r ∷ recorded) is =
    let (here, rest) = both (bytes_eq r name) (are_same names recorded) is in
    ap (λ n. n ∷ recorded) ((bytes_eq-Decides r name).0 here) ∙ ap (λ ns. name ∷ ns) (same_names names recorded rest)

same_explicit : (compared : List (List ℕ)) (recorded : Option (List (List ℕ))) (names : List (List ℕ)) → recorded ≡ Some names →
    option_map_or (are_same compared) recorded true ≡ true → names ≡ compared
same_explicit compared None names known is = absurd cc
same_explicit compared (Some kept) names known is =
    let same : kept ≡ names = cc in sym same ∙ same_names compared kept is

done_is : (ph : Phase) → is_done ph ≡ true → ph ≡ phase.Done
done_is phase.Begun e = absurd cc
done_is phase.Done e = refl
done_is (phase.Failed status) e = absurd cc

done_begun : phase.Done ≡ phase.Begun → ⊥
done_begun e = cc

done_failed : (status : ℕ) → phase.Done ≡ phase.Failed status → ⊥
done_failed status e = cc

some_none : {X : Type 0} (x : X) → Some x ≡ None → ⊥
some_none x e = cc

none_some : {X : Type 0} (o : Option X) → is_some o ≡ true → o ≡ None → ⊥
none_some None e f = cc
none_some (Some x) e f = cc

-- ---- the node

module _ (keeping : Bool) (graph : Graph) (marks : List Bool) (n : ℕ) where
  abbrev prerequisites : List Prerequisite
  prerequisites = map as_seen (seen_of graph marks n)

  abbrev target_of : (commands : List (List ℕ)) → Target
  target_of commands = record {
    commands = record { ref_ptr = (0, 0); now = commands };
    explicit = record { ref_ptr = (0, 0); now = compared_of graph n };
    stamp = made_of graph n;
    prerequisites = record { ref_ptr = (0, 0); now = prerequisites };
    orders_hidden = not graph.soft_dropped;
    source_changed = (noted_of graph n).source_changed;
    files = record { ref_ptr = (0, 0); now = files_of graph n };
  }

  abbrev tests : Prerequisite → Bool
  tests = quiet keeping (not graph.soft_dropped) (made_of graph n)

  hard_passes : (hard : ℕ × Mark) → leaves_hard keeping graph marks (made_of graph n) hard ≡ true → tests (as_seen (seen_hard graph marks hard)) ≡ true
  hard_passes (m, mark) e =
      hard_quiet (file_quiet keeping (made_of graph n) (as_seen (seen_hard graph marks (m, mark)))) (is_marked marks m) keeping (not graph.soft_dropped) e

  -- the hidden prerequisite is no reason
  abbrev leaves_whole : Option ℕ × Mark → Bool
  leaves_whole hidden = leaves_hidden keeping graph marks (made_of graph n) hidden && (not keeping || has_text_name graph hidden.0)

  hidden_passes : (hidden : Option ℕ × Mark) → leaves_whole hidden ≡ true → tests (as_seen (seen_hidden graph marks hidden)) ≡ true
  hidden_passes (None, mark) e = gone_quiet keeping (not graph.soft_dropped) (made_of graph n) mark e
  hidden_passes (Some m, mark) e =
      hidden_quiet (file_quiet keeping (made_of graph n) (as_seen (seen_hidden graph marks (Some m, mark)))) (is_none (stamp_of graph m))
      (is_utf8 (name_at graph.names m)) (is_marked marks m) keeping (not graph.soft_dropped) e

  all_pass : leaves_prerequisites keeping graph marks n (marks_of graph n) ≡ true →
      (not keeping || list_all (has_text_name graph) (hidden_of graph n)) ≡ true → list_all tests prerequisites ≡ true
  all_pass leaves texts =
      let (hard, hidden) = both (list_all (leaves_hard keeping graph marks (made_of graph n)) (hard_marked graph n)) _ leaves in
      let hards : List Seen = map (seen_hard graph marks) (hard_marked graph n) in
      let hiddens : List Seen = map (seen_hidden graph marks) (hidden_marked graph n) in
      let test : Seen → Bool = λ s. tests (as_seen s) in
      list_all-map tests as_seen (hards ++ hiddens) ∙ list_all-append test hards hiddens
      ∙ both_true (list_all test hards) (list_all test hiddens)
      (list_all-map test (seen_hard graph marks) (hard_marked graph n)
      ∙ all_weaker (leaves_hard keeping graph marks (made_of graph n)) (λ h. test (seen_hard graph marks h)) hard_passes (hard_marked graph n) hard)
      (list_all-map test (seen_hidden graph marks) (hidden_marked graph n)
      ∙ all_weaker leaves_whole (λ h. test (seen_hidden graph marks h)) hidden_passes (hidden_marked graph n)
      (all_both (leaves_hidden keeping graph marks (made_of graph n)) (λ (h : Option ℕ × Mark). not keeping || has_text_name graph h.0)
      (hidden_marked graph n) hidden
      (all_marked keeping (has_text_name graph) (hidden_of graph n) (marks_behind (row graph.hard n) (marks_of graph n)) texts)))

  module _ (entry : Entry) (at : entry_of graph n ≡ Some entry) (kept : is_kept graph n entry ≡ true) (leaves : leaves_all keeping graph marks n ≡ true) where
    of_entry : (P : Entry → Type 0) → IsSomeAnd (entry_of graph n) P → P entry
    of_entry P h = subst (λ e. IsSomeAnd e P) at h

    has_files : is_some (made_of graph n) ≡ true
    has_files = (both (is_some (made_of graph n)) _ leaves).0

    of_files : list_all (leaves_made keeping) (with_marks (looks_made graph n) (noted_of graph n).kept) ≡ true
    of_files = (both (list_all (leaves_made keeping) (with_marks (looks_made graph n) (noted_of graph n).kept)) _ (both (is_some (made_of graph n)) _ leaves).1).0

    passes : list_all tests prerequisites ≡ true
    passes =
        let rest = (both (list_all (leaves_made keeping) (with_marks (looks_made graph n) (noted_of graph n).kept)) _ (both (is_some (made_of graph n)) _ leaves).1).1 in
        let (leave, texts) = both (leaves_prerequisites keeping graph marks n (marks_of graph n)) _ rest in
        all_pass leave texts

    is_over : entry.phase ≡ phase.Done
    is_over = done_is entry.phase (both (is_done entry.phase) _ kept).0

    of_names : (not (noted_in graph n entry).source_changed ≡ true) × (is_explicit graph n entry ≡ true)
    of_names = both (not (noted_in graph n entry).source_changed) (is_explicit graph n entry) (both (is_done entry.phase) _ kept).1

    same_source : (noted_of graph n).source_changed ≡ true → ⊥
    same_source changed =
        apart (noted_in graph n entry).source_changed (sym (ap (λ (m : Noted). m.source_changed) (noted_at graph n (Some entry) at)) ∙ changed) of_names.0

    same_prerequisites : HasOtherNames (target_of entry.commands) entry → ⊥
    same_prerequisites (inl changed) = same_source changed
    same_prerequisites (inr (names, known, others)) =
        others (same_explicit (compared_in graph n entry) (names_recorded entry.explicit) names known of_names.1
        ∙ sym (ap (λ e. option_map_or (compared_in graph n) e (explicit_of graph n)) at))

    no_reason : (reason : Reason) → Holds keeping (entry_of graph n) (target_of entry.commands) reason → ⊥
    no_reason NoEntry (k, none) = some_none entry (sym at ∙ none)
    no_reason WasBegun (k, h) = done_begun (sym is_over ∙ of_entry (λ e. e.phase ≡ phase.Begun) h)
    no_reason WasFailed (k, h) = let (status, is) = of_entry HasFailed h in done_failed status (sym is_over ∙ is)
    no_reason CommandsChanged (k, h) = of_entry (λ e. e.commands ≢ entry.commands) h refl
    no_reason PrerequisitesChanged (k, h) = same_prerequisites (of_entry (HasOtherNames (target_of entry.commands)) h)
    no_reason Absent none = none_some (made_of graph n) has_files none
    no_reason TargetChanged h = none_replaced keeping (with_marks (looks_made graph n) (noted_of graph n).kept) of_files h
    no_reason (Newer i) h =
        none_at tests (IsNewer keeping (made_of graph n)) (λ p is. not_newer keeping (not graph.soft_dropped) (made_of graph n) p is) prerequisites passes i h
    no_reason (Changed i) h =
        none_at tests (λ p. Differs (mark_of keeping p.mark) p.look) (λ p is. not_changed keeping (not graph.soft_dropped) (made_of graph n) p is) prerequisites
        passes i h
    no_reason (HiddenGone i) (k, h) =
        none_at tests IsGone (λ p is. not_gone keeping (not graph.soft_dropped) (made_of graph n) p is k) prerequisites passes i h
    no_reason (Remade i) h =
        none_at tests (IsRemade (not graph.soft_dropped)) (λ p is. not_remade keeping (not graph.soft_dropped) (made_of graph n) p is) prerequisites passes i h

    module _ (l : RuleLine) (first : recipe_line graph n ≡ Some l) (alone : is_part (language_of graph) l ≡ false) where
      recipe_is : recipe_of graph n ≡ Some (l ∷ [])
      recipe_is =
          ap (option_map (parts_of (language_of graph) graph.lines.items (name_at graph.names n))) first
          ∙ ap (λ b. Some (if b then double_lines graph.lines.items (name_at graph.names n) else l ∷ [])) alone

      passed : PartGives graph marks n l entry.commands → Passes keeping graph marks n false (finished (name_at graph.names n) ∷ [])
      passed (lines, are, is) =
          is_up_to_date (l ∷ []) lines (target_of entry.commands) recipe_is (lines, [], are, refl, sym (append-nil lines))
          (record {
            commands = subst (λ commands. Records lines commands) is (recorded_by lines);
            explicit = refl;
            stamp = refl;
            prerequisites = shown_again (seen_of graph marks n);
            ordered = refl;
            source = refl;
            files = refl;
          })
          (λ (reason, holds). no_reason reason holds)

      finished_so : (so : Bool) → OnTrue so (PartGives graph marks n l entry.commands) →
          OnTrue so (Passes keeping graph marks n false (finished (name_at graph.names n) ∷ []))
      finished_so true gives = passed gives
      finished_so false gives = tt

      finished_if_kept : {E : Type 0} (commands : List (List ℕ)) → commands ≡ entry.commands → (got : Result Bool E) →
          IfOk got (λ so. OnTrue so (PartGives graph marks n l commands)) →
          IfOk got (λ so. OnTrue so (Passes keeping graph marks n false (finished (name_at graph.names n) ∷ [])))
      finished_if_kept commands same (Ok so) gives = finished_so so (subst (λ cs. OnTrue so (PartGives graph marks n l cs)) same gives)
      finished_if_kept commands same (Err e) gives = tt

  pub finished_if : {E : Type 0} (entry : Entry) → entry_of graph n ≡ Some entry → (is_kept graph n entry && leaves_all keeping graph marks n) ≡ true →
      (l : RuleLine) → recipe_line graph n ≡ Some l → is_part (language_of graph) l ≡ false → (commands : List (List ℕ)) → commands ≡ entry.commands →
      (got : Result Bool E) → IfOk got (λ so. OnTrue so (PartGives graph marks n l commands)) →
      IfOk got (λ so. OnTrue so (Passes keeping graph marks n false (finished (name_at graph.names n) ∷ [])))
  finished_if entry at no_reasons l first alone commands same got gives =
      let (kept, leaves) = both (is_kept graph n entry) (leaves_all keeping graph marks n) no_reasons in
      finished_if_kept entry at kept leaves l first alone commands same got gives
