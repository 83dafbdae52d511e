-- Graphs that say the same of each number: by both the same files are seen, with the same marks.
use mathlib.Core.Path.{fun_ext}
use Rattle.std.specs.Prelude.{◌+◌, ◌==◌, ◌&&◌, if◌then◌else◌, is_some}
use Rattle.std.specs.Option.{option_map_or}
use Rattle.std.proofs.Common.{◌≡◌, ◌∙◌, ℕ, ℤ, Bool, true, false, not, List, ◌∷◌, ◌++◌, length, map, Option, Some, None, refl, sym, ap}
use Rattle.mk_graph.specs.Edges.{row}
use Rattle.mk_names.specs.Names.{name_at}
use Rattle.mk_macros.specs.Ranks.{defined_by}
use Rattle.mk_verdict.specs.declared.mark.Look.{Look}
use Rattle.mk_verdict.specs.declared.mark.Mark.{Mark}
use Rattle.mk_verdict.specs.declared.mark.Mark.TheVariants.{NotKept}
use Rattle.mk_nodes.specs.declared.file_look.FileLook.{FileLook}
use Rattle.mk_nodes.specs.declared.graph.Graph.{Graph}
use Rattle.mk_marks.specs.Marks.{nothing_kept}
use Rattle.mk_marks.specs.Noted.{noted}
use Rattle.mk_marks.specs.declared.kept.Kept.{Kept}
use Rattle.mk_marks.specs.declared.noted.Noted.{Noted}
use Rattle.mk_seen.specs.Marks.{look_from, look_of, looks_beside, looks_made, mark_counted, with_marks, marks_behind, marks_text, source_name, noted_in, nothing_noted, noted_of, has_same_names, is_as_recorded, compared_in, compared_of, marks_in, marks_of, made_file, files_of}
use Rattle.mk_seen.specs.Names.{are_known}
use Rattle.mk_seen.specs.Nodes.{stamp_of, made_of, entry_of, hidden_of, stem_of, source_of, explicit_of, is_marked}
use Rattle.mk_seen.specs.Seen.{Seen, seen_at, seen_hard, seen_hidden, seen_of}
use Rattle.st_records.specs.Parts.{names_known}
use Rattle.st_records.specs.declared.record.Entry.{Entry}
use Rattle.mk_plan.specs.ExplicitWords.{is_implicit}
use Rattle.mk_plan.specs.Parts.{recipe_of}
use Rattle.mk_plan.specs.Words.{implied_names, order_only_words}

-- what a passing reads of a graph is the same of both
pub record AreAlike (a b : Graph) : Type 0 where
  pub names : a.names ≡ b.names
  pub hard : a.hard ≡ b.hard
  pub stamp : (n : ℕ) → stamp_of a n ≡ stamp_of b n
  pub look : (n : ℕ) → look_of a n ≡ look_of b n
  pub beside : (n : ℕ) → looks_beside a n ≡ looks_beside b n
  pub made : (n : ℕ) → made_of a n ≡ made_of b n
  pub entry : (n : ℕ) → entry_of a n ≡ entry_of b n
  pub hidden : (n : ℕ) → hidden_of a n ≡ hidden_of b n
  pub stem : (n : ℕ) → stem_of a n ≡ stem_of b n
  pub source : (n : ℕ) → source_of a n ≡ source_of b n
  pub source_named : (n : ℕ) → source_name a n ≡ source_name b n
  pub explicit : (n : ℕ) → explicit_of a n ≡ explicit_of b n
  pub sources : (n : ℕ) → implied_names a n ≡ implied_names b n
  pub order_only : (n : ℕ) → order_only_words a n ≡ order_only_words b n
  pub implicit : (n : ℕ) → is_implicit a n ≡ is_implicit b n
  pub recipe : (n : ℕ) → recipe_of a n ≡ recipe_of b n
  pub lines : a.lines.items ≡ b.lines.items
  pub dropped : a.soft_dropped ≡ b.soft_dropped
  pub defined : defined_by a.macros ≡ defined_by b.macros

pub turned : (a b : Graph) → AreAlike a b → AreAlike b a
turned a b same = record {
  names = sym same.names;
  hard = sym same.hard;
  stamp = λ n. sym (same.stamp n);
  look = λ n. sym (same.look n);
  beside = λ n. sym (same.beside n);
  made = λ n. sym (same.made n);
  entry = λ n. sym (same.entry n);
  hidden = λ n. sym (same.hidden n);
  stem = λ n. sym (same.stem n);
  source = λ n. sym (same.source n);
  source_named = λ n. sym (same.source_named n);
  explicit = λ n. sym (same.explicit n);
  sources = λ n. sym (same.sources n);
  order_only = λ n. sym (same.order_only n);
  implicit = λ n. sym (same.implicit n);
  recipe = λ n. sym (same.recipe n);
  lines = sym same.lines;
  dropped = sym same.dropped;
  defined = sym same.defined;
}

module _ (a b : Graph) (same : AreAlike a b) (marks : List Bool) (n : ℕ) where
  -- ---- files with their marks

  noted_alike : (entry : Entry) → noted_in a n entry ≡ noted_in b n entry
  noted_alike entry =
      let names : ℕ = length (names_known entry.explicit) + length entry.hidden in
      ap (λ s. noted (marks_text entry.explicit) s (length (looks_beside a n)) names) (same.source_named n)
      ∙ ap (λ (ls : List (Option FileLook)). noted (marks_text entry.explicit) (source_name b n) (length ls) names) (same.beside n)

  pub same_noted : noted_of a n ≡ noted_of b n
  same_noted =
      ap (λ (f : Entry → Noted). option_map_or f (entry_of a n) nothing_noted) (fun_ext noted_alike)
      ∙ ap (λ e. option_map_or (noted_in b n) e nothing_noted) (same.entry n)

  same_looks : looks_made a n ≡ looks_made b n
  same_looks =
      ap (λ l. l ∷ map look_from (looks_beside a n)) (same.look n) ∙ ap (λ ls. look_of b n ∷ map look_from ls) (same.beside n)

  pub same_files : files_of a n ≡ files_of b n
  same_files =
      ap (λ (ls : List Look). map made_file (with_marks ls (noted_of a n).kept)) same_looks
      ∙ ap (λ (m : Noted). map made_file (with_marks (looks_made b n) m.kept)) same_noted

  abbrev same_by : Entry → (found : Noted) (explicit : List (List ℕ)) (hidden : List (Option ℕ)) → Bool
  same_by entry found explicit hidden =
      not found.source_changed
      && (are_known explicit (names_known entry.explicit) entry.hidden
      && (length (names_known entry.explicit) + length entry.hidden == length explicit + length hidden))

  names_alike : (entry : Entry) → has_same_names a n entry ≡ has_same_names b n entry
  names_alike entry =
      ap (λ m. same_by entry m (explicit_of a n) (hidden_of a n)) (noted_alike entry)
      ∙ ap (λ ns. same_by entry (noted_in b n entry) ns (hidden_of a n)) (same.explicit n)
      ∙ ap (same_by entry (noted_in b n entry) (explicit_of b n)) (same.hidden n)

  compared_alike : (entry : Entry) → compared_in a n entry ≡ compared_in b n entry
  compared_alike entry =
      ap (λ s. if is_some (marks_text entry.explicit) && s then names_known entry.explicit else explicit_of a n) (names_alike entry)
      ∙ ap (λ ns. if is_as_recorded b n entry then names_known entry.explicit else ns) (same.explicit n)

  pub same_compared : compared_of a n ≡ compared_of b n
  same_compared =
      ap (λ (f : Entry → List (List ℕ)). option_map_or f (entry_of a n) (explicit_of a n)) (fun_ext compared_alike)
      ∙ ap (λ e. option_map_or (compared_in b n) e (explicit_of a n)) (same.entry n)
      ∙ ap (option_map_or (compared_in b n) (entry_of b n)) (same.explicit n)

  abbrev marks_by : Entry → (found : Noted) (looks : List Look) (same_names : Bool) → Kept
  marks_by entry found looks same_names = if same_names then marks_behind looks found.kept else nothing_kept found.kept.other

  marks_alike : (entry : Entry) → marks_in a n entry ≡ marks_in b n entry
  marks_alike entry =
      ap (λ m. marks_by entry m (looks_made a n) (has_same_names a n entry)) (noted_alike entry)
      ∙ ap (λ ls. marks_by entry (noted_in b n entry) ls (has_same_names a n entry)) same_looks
      ∙ ap (marks_by entry (noted_in b n entry) (looks_made b n)) (names_alike entry)

  pub same_marks : marks_of a n ≡ marks_of b n
  same_marks =
      ap (λ (f : Entry → Kept). option_map_or f (entry_of a n) (nothing_kept NotKept)) (fun_ext marks_alike)
      ∙ ap (λ e. option_map_or (marks_in b n) e (nothing_kept NotKept)) (same.entry n)

  abbrev seen_by : (is_hidden : Bool) (m : ℕ) (mark : Mark) (name : List ℕ) (stamp : Option ℤ) (look : Look) → Seen
  seen_by is_hidden m mark name stamp look = record {
    name = name;
    stamp = stamp;
    is_hidden = is_hidden;
    has_rule = true;
    is_remade = is_marked marks m;
    look = look;
    mark = mark_counted look mark;
  }

  same_seen : (is_hidden : Bool) (h : Option ℕ) (mark : Mark) → seen_at a marks is_hidden h mark ≡ seen_at b marks is_hidden h mark
  same_seen is_hidden None mark = refl
  same_seen is_hidden (Some m) mark =
      ap (λ ns. seen_by is_hidden m mark (name_at ns m) (stamp_of a m) (look_of a m)) same.names
      ∙ ap (λ s. seen_by is_hidden m mark (name_at b.names m) s (look_of a m)) (same.stamp m)
      ∙ ap (seen_by is_hidden m mark (name_at b.names m) (stamp_of b m)) (same.look m)

  hard_alike : (h : ℕ × Mark) → seen_hard a marks h ≡ seen_hard b marks h
  hard_alike (m, mark) = same_seen false (Some m) mark

  hidden_alike : (h : Option ℕ × Mark) → seen_hidden a marks h ≡ seen_hidden b marks h
  hidden_alike (hidden, mark) = same_seen true hidden mark

  abbrev seen_with : (f : ℕ × Mark → Seen) (g : Option ℕ × Mark → Seen) (hard : List ℕ) (hidden : List (Option ℕ)) (kept : Kept) → List Seen
  seen_with f g hard hidden kept = map f (with_marks hard kept) ++ map g (with_marks hidden (marks_behind hard kept))

  pub seen_in : seen_of a marks n ≡ seen_of b marks n
  seen_in =
      ap (λ f. seen_with f (seen_hidden a marks) (row a.hard n) (hidden_of a n) (marks_of a n)) (fun_ext hard_alike)
      ∙ ap (λ g. seen_with (seen_hard b marks) g (row a.hard n) (hidden_of a n) (marks_of a n)) (fun_ext hidden_alike)
      ∙ ap (λ h. seen_with (seen_hard b marks) (seen_hidden b marks) (row h n) (hidden_of a n) (marks_of a n)) same.hard
      ∙ ap (λ hs. seen_with (seen_hard b marks) (seen_hidden b marks) (row b.hard n) hs (marks_of a n)) (same.hidden n)
      ∙ ap (seen_with (seen_hard b marks) (seen_hidden b marks) (row b.hard n) (hidden_of b n)) same_marks
