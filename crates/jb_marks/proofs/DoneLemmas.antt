-- What the marks of a 'done' come to.
use Rattle.std.proofs.Common.{◌≡◌, inl, inr, ◌∙◌, ℕ, suc, ◌+◌, ℤ, Bool, true, false, not, List, ◌++◌, length, take, drop, Option, Some, None, refl, sym, subst, ap, arith}
use Rattle.std.specs.Prelude.{IsSomeAnd, option_to_list, if◌then◌else◌}
use Rattle.std.specs.Option.{option_copied}
use Rattle.std.proofs.lemmas.Slice.Eq.{bytes_eq-Decides}
use Rattle.std.proofs.lemmas.Bool.Decides.{Decides-eqb}
use Rattle.std.proofs.lemmas.List.{length-append, append_assoc}
use Rattle.st_marks.specs.Encoding.{IsText}
use Rattle.st_marks.specs.declared.mark.Mark.{Mark}
use Rattle.mk_marks.specs.Marks.{nothing_kept, so_many_kept}
use Rattle.mk_marks.specs.Noted.{same_source, noted_by, noted}
use Rattle.mk_marks.specs.Said.{said}
use Rattle.mk_marks.specs.declared.kept.Kept.{Kept}
use Rattle.mk_marks.specs.declared.noted.Noted.{Noted}
use Rattle.mk_marks.proofs.SaidLemmas.{said_of}
use Rattle.mk_verdict.specs.declared.mark.Mark.TheVariants.{Unknown}
use Rattle.jb_marks.specs.declared.before.Before.{Before}
use Rattle.jb_marks.specs.declared.before.Known.{Known}
use Rattle.jb_marks.specs.declared.names.Names.{Names}
use Rattle.jb_marks.specs.declared.sights.Sight.{Sight}
use Rattle.jb_marks.specs.Before.{made_names, source_names, is_open, IsTaken, IsTakenUnlessOpen, IsKnown, IsBefore}
use Rattle.jb_marks.specs.Done.{HasKnown, IsReported, AreMarks}
use Rattle.jb_marks.specs.Each.{EachWith}
use Rattle.jb_marks.specs.Single.{IsMarkOf}
use Rattle.jb_marks.specs.Laws.{AreDone, IsSureMark, prerequisites}
use Rattle.jb_marks.proofs.EachLemmas.{each_length, each_map, each_append, each_at, behind_first, first_ones}
use Rattle.jb_marks.proofs.MarkLemmas.{begin_sure, behind_sure}

-- ---- the marks behind those of what the recipe makes

rest_of : (before : Before) (hidden : List Mark) → List Mark
rest_of before hidden = option_to_list before.source ++ (before.explicit.items ++ hidden)

pub rest_is : (told : List ℕ → Sight → Type 0) (said : List ℕ → Bool → Type 0) (before : Before) (behind : List Sight) (reported : List (List ℕ)) (marks : List Mark)
    (are : AreMarks told said before behind reported marks) → drop (length behind) marks ≡ option_to_list before.source ++ (before.explicit.items ++ are.hidden)
rest_is told said before behind reported marks are =
    subst (λ (ms : List Mark). drop (length behind) ms ≡ option_to_list before.source ++ (before.explicit.items ++ are.hidden)) (sym are.whole)
    (behind_first (length behind) are.files (option_to_list before.source ++ (before.explicit.items ++ are.hidden))
    (each_length IsMarkOf behind are.files are.of_files))

pub named_is : (told : List ℕ → Sight → Type 0) (said : List ℕ → Bool → Type 0) (before : Before) (behind : List Sight) (reported : List (List ℕ)) (marks : List Mark)
    → AreMarks told said before behind reported marks
    → take (length (option_to_list before.source ++ before.explicit.items)) (drop (length behind) marks) ≡ option_to_list before.source ++ before.explicit.items
named_is told said before behind reported marks are =
    ap (take (length (option_to_list before.source ++ before.explicit.items)))
    (rest_is told said before behind reported marks are ∙ sym (append_assoc (option_to_list before.source) before.explicit.items are.hidden))
    ∙ first_ones (option_to_list before.source ++ before.explicit.items) are.hidden

-- ---- sure marks

taken_by : (told : List ℕ → Sight → Type 0) (said : List ℕ → Bool → Type 0) (tick : ℤ) (name : List ℕ) (open' : Bool) (found : Option Mark) (m : Mark)
    → found ≡ Some m → IsTakenUnlessOpen open' (IsTaken told said tick name) found → IsTaken told said tick name m
taken_by told said tick name true found m e is = let wrong : None ≡ Some m = sym is ∙ e in absurd cc
taken_by told said tick name false found m e is = subst (λ (o : Option Mark). IsSomeAnd o (IsTaken told said tick name)) e is

known_sure : (told : List ℕ → Sight → Type 0) (said : List ℕ → Bool → Type 0) (ticked : ℤ → Type 0) (names : Names) (before : Before) → IsBefore told said ticked names before
    → (name : List ℕ) (m : Mark) → HasKnown before.hidden.items name (Some m) → IsSureMark told said before.tick name m
known_sure told said ticked names before is name m (i, has) =
    let (recorded, known, of, has') =
    each_at (IsKnown told said before.tick) (λ (k : Known). (k.name ≡ name) × (k.mark ≡ Some m)) names.recorded.now before.hidden.items i is.hidden has in
    let taken = taken_by told said before.tick recorded.name (is_open recorded.mark) known.mark m has'.1 of.1 in
    subst (λ (n : List ℕ). IsSureMark told said before.tick n m) (sym of.0 ∙ has'.0) (begin_sure told said before.tick recorded.name m taken)

reported_sure : (told : List ℕ → Sight → Type 0) (said : List ℕ → Bool → Type 0) (ticked : ℤ → Type 0) (names : Names) (before : Before) → IsBefore told said ticked names before
    → (name : List ℕ) (m : Mark) → IsReported told said before name m → IsSureMark told said before.tick name m
reported_sure told said ticked names before is name m (inl known) = known_sure told said ticked names before is name m known
reported_sure told said ticked names before is name m (inr (inl (open', look))) = behind_sure told said before.tick name true m look
reported_sure told said ticked names before is name m (inr (inr (new', look))) = behind_sure told said before.tick name false m look

pub all_sure : (told : List ℕ → Sight → Type 0) (said : List ℕ → Bool → Type 0) (ticked : ℤ → Type 0) (names : Names) (before : Before) (behind : List Sight)
    (reported : List (List ℕ)) (marks : List Mark) → AreDone told said ticked names before behind reported marks
    → EachWith (IsSureMark told said before.tick) (prerequisites names reported) (drop (length behind) marks)
all_sure told said ticked names before behind reported marks done =
    let sure = IsSureMark told said before.tick in
    let taken = λ (ns : List (List ℕ)) (ms : List Mark) (each : EachWith (IsTaken told said before.tick) ns ms).
    each_map (IsTaken told said before.tick) sure (begin_sure told said before.tick) ns ms each in
    subst (EachWith sure (prerequisites names reported)) (sym (rest_is told said before behind reported marks done.marked))
    (each_append sure (source_names names) (names.explicit.now ++ reported) (option_to_list before.source) (before.explicit.items ++ done.marked.hidden)
    (taken (source_names names) (option_to_list before.source) done.looked.source)
    (each_append sure names.explicit.now reported before.explicit.items done.marked.hidden
    (taken names.explicit.now before.explicit.items done.looked.explicit)
    (each_map (IsReported told said before) sure (reported_sure told said ticked names before done.looked) reported done.marked.hidden done.marked.of_hidden)))

-- ---- one mark for each name

lengths : (as' bs cs ds : List Mark) → length (as' ++ (bs ++ (cs ++ ds))) ≡ length as' + (length bs + (length cs + length ds))
lengths as' bs cs ds = simp length-append

names_lengths : (bs cs ds : List (List ℕ)) → length (bs ++ (cs ++ ds)) ≡ length bs + (length cs + length ds)
names_lengths bs cs ds = simp length-append

pub count_is : (told : List ℕ → Sight → Type 0) (said : List ℕ → Bool → Type 0) (ticked : ℤ → Type 0) (names : Names) (before : Before) (behind : List Sight)
    (reported : List (List ℕ)) (marks : List Mark) → AreDone told said ticked names before behind reported marks
    → length marks ≡ length (made_names names) + length (prerequisites names reported)
count_is told said ticked names before behind reported marks done =
    let made = each_length told (made_names names) behind done.left in
    let files = each_length IsMarkOf behind done.marked.files done.marked.of_files in
    let source = each_length (IsTaken told said before.tick) (source_names names) (option_to_list before.source) done.looked.source in
    let explicit = each_length (IsTaken told said before.tick) names.explicit.now before.explicit.items done.looked.explicit in
    let hidden = each_length (IsReported told said before) reported done.marked.hidden done.marked.of_hidden in
    let whole : length marks ≡ length done.marked.files + (length (option_to_list before.source) + (length before.explicit.items + length done.marked.hidden)) =
    ap length done.marked.whole ∙ lengths done.marked.files (option_to_list before.source) before.explicit.items done.marked.hidden in
    let all = names_lengths (source_names names) names.explicit.now reported in
    omega (arith, made, files, source, explicit, hidden, whole, all)

-- ---- what is read back

same_self : (source : Option (List ℕ)) → same_source source source ≡ true
same_self None = refl
same_self (Some name) = (bytes_eq-Decides name name).1 refl

abbrev kept_with : (marks : List Mark) → Kept
kept_with marks = record { marks = marks; other = Unknown }

abbrev noted_with : (changed : Bool) (kept : Kept) → Noted
noted_with changed kept = record { source_changed = changed; kept = kept }

many_kept : (marks : List Mark) (count : ℕ) → length marks ≡ count → so_many_kept marks count ≡ kept_with marks
many_kept marks count e = ap (λ (t : Bool). if t then kept_with marks else nothing_kept Unknown) ((Decides-eqb (length marks) count).1 e)

pub read_back : (told : List ℕ → Sight → Type 0) (said' : List ℕ → Bool → Type 0) (ticked : ℤ → Type 0) (names : Names) (before : Before) (behind : List Sight)
    (reported : List (List ℕ)) (marks : List Mark) (text : List ℕ) → AreDone told said' ticked names before behind reported marks → IsText (option_copied names.source) marks text
    → noted (Some text) (option_copied names.source) (length names.others.now) (length names.explicit.now + length reported)
    ≡ record { source_changed = false; kept = record { marks = marks; other = Unknown } }
read_back told said' ticked names before behind reported marks text done is =
    let source = option_copied names.source in
    let others = length names.others.now in
    let behind' = length names.explicit.now + length reported in
    let parts = names_lengths (source_names names) names.explicit.now reported in
    let counted = count_is told said' ticked names before behind reported marks done in
    let count : length marks ≡ suc (others + (length (option_to_list source) + behind')) = omega (arith, parts, counted) in
    ap (λ (found : Option (Option (List ℕ) × List Mark)). noted_by found source others behind') (said_of source marks text is)
    ∙ ap (λ (same : Bool). noted_with (not same) (so_many_kept marks (suc (others + (length (option_to_list source) + behind'))))) (same_self source)
    ∙ ap (noted_with false) (many_kept marks (suc (others + (length (option_to_list source) + behind'))) count)
