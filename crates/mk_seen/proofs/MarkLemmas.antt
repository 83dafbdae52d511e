-- Marks behind others.
use Rattle.std.specs.Prelude.{if◌then◌else◌, ◌+◌, replicate, option_map, unwrap_or}
use Rattle.std.specs.Option.{option_map_or}
use Rattle.std.proofs.Common.{◌≡◌, ◌∙◌, ℕ, suc, Bool, true, false, List, [], ◌∷◌, map, length, Option, None, refl, sym, ap}
use Rattle.mk_marks.specs.Marks.{later_marks, nothing_kept}
use Rattle.mk_marks.specs.Noted.{noted}
use Rattle.mk_marks.specs.declared.kept.Kept.{Kept}
use Rattle.mk_marks.specs.declared.noted.Noted.{Noted}
use Rattle.mk_nodes.specs.Hidden.{spread}
use Rattle.mk_nodes.specs.Node.{hidden_by, hidden_marks}
use Rattle.mk_nodes.specs.declared.graph.Node.{Node}
use Rattle.mk_nodes.specs.declared.graph.Graph.{Graph}
use Rattle.mk_verdict.specs.declared.mark.Mark.{Mark}
use Rattle.mk_verdict.specs.declared.mark.Mark.TheVariants.{NotKept}
use Rattle.mk_seen.specs.Marks.{looks_beside, looks_made, marks_behind, marks_text, source_name, noted_in, nothing_noted, noted_of, has_same_names, marks_in, marks_of}
use Rattle.mk_seen.specs.Nodes.{entry_of}
use Rattle.st_records.specs.Parts.{names_known}
use Rattle.st_records.specs.declared.record.Entry.{Entry}

-- none are left behind none
pub nothing_behind : {A : Type 0} (xs : List A) (other : Mark) → marks_behind xs (nothing_kept other) ≡ nothing_kept other
nothing_behind [] other = refl
nothing_behind (x ∷ xs) other = nothing_behind xs other

-- what stands for each mark that there isn't
pub other_behind : {A : Type 0} (xs : List A) (kept : Kept) → (marks_behind xs kept).other ≡ kept.other
other_behind [] kept = refl
other_behind (x ∷ xs) kept = other_behind xs (later_marks kept)

-- marks go by the number of files alone
pub behind_map : {A B : Type 0} (f : A → B) (xs : List A) (kept : Kept) → marks_behind (map f xs) kept ≡ marks_behind xs kept
behind_map f [] kept = refl
behind_map f (x ∷ xs) kept = behind_map f xs (later_marks kept)

-- with or without a comparison, nothing is left of nothing
pub nothing_either : {A : Type 0} (xs : List A) (other : Mark) (same : Bool) →
    marks_behind xs (nothing_kept other) ≡ (if same then marks_behind xs (nothing_kept other) else nothing_kept other)
nothing_either xs other true = refl
nothing_either xs other false = nothing_behind xs other

-- as many hidden prerequisites as it is known of whether they are nodes
pub length-spread : (bs : List Bool) (ns : List ℕ) → length (spread bs ns) ≡ length bs
length-spread [] ns = refl
length-spread (false ∷ bs) ns = ap suc (length-spread bs ns)
length-spread (true ∷ bs) [] = ap suc (length-spread bs [])
length-spread (true ∷ bs) (n ∷ ns) = ap suc (length-spread bs ns)

pub length-hidden : (node : Node) (marks : Option (List Bool)) (soft : List ℕ) → marks ≡ option_map (λ m. m.value.items) node.rare.marks →
    length (hidden_by node soft) ≡ length (unwrap_or marks (replicate node.hidden true))
length-hidden node marks soft is =
    length-spread (hidden_marks node) soft ∙ ap (λ (o : Option (List Bool)). length (unwrap_or o (replicate node.hidden true))) (sym is)

-- ---- what an entry has

module _ (graph : Graph) (n : ℕ) where
  abbrev marks_from : (same : Bool) → Noted → Kept
  marks_from same m = if same then marks_behind (looks_made graph n) m.kept else nothing_kept m.kept.other

  module _ (entry : Entry) (left : Kept) (is : left ≡ marks_behind (looks_made graph n) (noted_in graph n entry).kept) where
    pub unmarked : marks_text entry.explicit ≡ None → left ≡ marks_in graph n entry
    unmarked none =
        let noted_is : noted_in graph n entry ≡ nothing_noted
        = ap (λ t. noted t (source_name graph n) (length (looks_beside graph n)) (length (names_known entry.explicit) + length entry.hidden)) none in
        is ∙ ap (λ (m : Noted). marks_behind (looks_made graph n) m.kept) noted_is
        ∙ nothing_either (looks_made graph n) NotKept (has_same_names graph n entry)
        ∙ sym (ap (marks_from (has_same_names graph n entry)) noted_is)

    pub as_named : has_same_names graph n entry ≡ true → left ≡ marks_in graph n entry
    as_named same = is ∙ sym (ap (λ b. marks_from b (noted_in graph n entry)) same)

    pub otherwise_named : has_same_names graph n entry ≡ false → nothing_kept left.other ≡ marks_in graph n entry
    otherwise_named others =
        ap (λ (k : Kept). nothing_kept k.other) is ∙ ap nothing_kept (other_behind (looks_made graph n) (noted_in graph n entry).kept)
        ∙ sym (ap (λ b. marks_from b (noted_in graph n entry)) others)

  pub noted_at : (entry : Option Entry) → entry_of graph n ≡ entry → noted_of graph n ≡ option_map_or (noted_in graph n) entry nothing_noted
  noted_at entry at = ap (λ e. option_map_or (noted_in graph n) e nothing_noted) at

  pub marks_at : (entry : Option Entry) → entry_of graph n ≡ entry → marks_of graph n ≡ option_map_or (marks_in graph n) entry (nothing_kept NotKept)
  marks_at entry at = ap (λ e. option_map_or (marks_in graph n) e (nothing_kept NotKept)) at
