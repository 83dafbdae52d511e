-- How long the stem of a name is by a form.
use Rattle.std.specs.Option.{option_map_or}
use Rattle.std.specs.Prelude.{option_and_then}
use Rattle.std.proofs.Common.{arith, ◌≡◌, ◌∙◌, ◌<◌, ◌↔◌, ℕ, ◌+◌, ◌-◌, Bool, true, false, if◌then◌else◌, List, [], ◌∷◌, length, take, drop, Option, Some, None, refl, sym, ap, bytes_eq}
use Rattle.std.proofs.lemmas.List.{length-append, take-append-drop}
use Rattle.std.proofs.lemmas.Slice.Eq.{bytes_eq-Decides}
use Rattle.mk_macros.specs.Words.{last_slash, behind_slash, file_of, without_front, without_end}
use Rattle.mk_makefile.specs.Order.{beside_stem, has_longer_stem}
use Rattle.mk_rule_lines.specs.Patterns.{folder_of}
use Rattle.mk_makefile.specs.Source.{seen_by, stem_by, stem_of}
use Rattle.mk_makefile.specs.declared.form.Form.{Form}

end_length : (after word stem : List ℕ) (t : Bool) → bytes_eq (drop (length word - length after) word) after ≡ t → without_end after word ≡ Some stem →
    length word ≡ length stem + length after
end_length after word stem true e is =
    let n : ℕ = length word - length after in
    let tail : drop n word ≡ after = (bytes_eq-Decides (drop n word) after).0 e in
    let some : without_end after word ≡ Some (take n word) = rw e refl in
    let same : Some (take n word) ≡ Some stem = sym some ∙ is in
    let head : take n word ≡ stem = cc in
    sym (ap length (take-append-drop n word)) ∙ length-append (take n word) (drop n word)
    ∙ ap (λ (t : List ℕ). length t + length (drop n word)) head ∙ ap (λ (t : List ℕ). length stem + length t) tail
end_length after word stem false e is = let none : without_end after word ≡ None = rw e refl in let no : None ≡ Some stem = sym none ∙ is in cc

front_length : (before word behind : List ℕ) (t : Bool) → bytes_eq (take (length before) word) before ≡ t → without_front before word ≡ Some behind →
    length word ≡ length before + length behind
front_length before word behind true e is =
    let n : ℕ = length before in
    let head : take n word ≡ before = (bytes_eq-Decides (take n word) before).0 e in
    let some : without_front before word ≡ Some (drop n word) = rw e refl in
    let same : Some (drop n word) ≡ Some behind = sym some ∙ is in
    let tail : drop n word ≡ behind = cc in
    sym (ap length (take-append-drop n word)) ∙ length-append (take n word) (drop n word)
    ∙ ap (λ (t : List ℕ). length t + length (drop n word)) head ∙ ap (λ (t : List ℕ). length before + length t) tail
front_length before word behind false e is = let none : without_front before word ≡ None = rw e refl in let no : None ≡ Some behind = sym none ∙ is in cc

taken_length : (takes_empty : Bool) (folder rest : List ℕ) (stem : List ℕ × List ℕ) → stem_by takes_empty folder rest ≡ Some stem →
    length stem.0 + length stem.1 ≡ length folder + length rest
taken_length true folder rest stem is =
    let same : (folder, rest) ≡ stem = cc in sym (ap (λ (s : List ℕ × List ℕ). length s.0 + length s.1) same)
taken_length false [] [] stem is = cc
taken_length false [] (b ∷ rest) stem is =
    let same : ([], b ∷ rest) ≡ stem = cc in sym (ap (λ (s : List ℕ × List ℕ). length s.0 + length s.1) same)
taken_length false (f ∷ folder) rest stem is =
    let same : (f ∷ folder, rest) ≡ stem = cc in sym (ap (λ (s : List ℕ × List ℕ). length s.0 + length s.1) same)

fit_length : (form : Form) (folder file : List ℕ) (stem : List ℕ × List ℕ) (behind : Option (List ℕ)) → without_front form.before file ≡ behind → (rest : Option (List ℕ)) →
    option_and_then (without_end form.after) behind ≡ rest → option_and_then (stem_by form.takes_empty folder) rest ≡ Some stem →
    length stem.0 + length stem.1 + beside_stem form ≡ length folder + length file
fit_length form folder file stem None f None g h = cc
fit_length form folder file stem None f (Some rest) g h = cc
fit_length form folder file stem (Some behind) f None g h = cc
fit_length form folder file stem (Some behind) f (Some rest) g h =
    let front = front_length form.before file behind (bytes_eq (take (length form.before) file) form.before) refl f in
    let end = end_length form.after behind rest (bytes_eq (drop (length behind - length form.after) behind) form.after) refl g in
    let whole = taken_length form.takes_empty folder rest stem h in
    omega (arith, front, end, whole)

parted_length : (name : List ℕ) (slash : Option ℕ) → length (option_map_or (λ i. take (i + 1) name) slash []) + length (behind_slash name slash) ≡ length name
parted_length name None = omega arith
parted_length name (Some i) = sym (length-append (take (i + 1) name) (drop (i + 1) name)) ∙ ap length (take-append-drop (i + 1) name)

abbrev parted_at : (name : List ℕ) (leaves : Bool) → List ℕ × List ℕ
parted_at name leaves = if leaves then (folder_of name, file_of name) else ([], name)

left_length : (name : List ℕ) (leaves : Bool) → length (parted_at name leaves).0 + length (parted_at name leaves).1 ≡ length name
left_length name true = parted_length name (last_slash name)
left_length name false = omega arith

seen_length : (form : Form) (name : List ℕ) → length (seen_by form name).0 + length (seen_by form name).1 ≡ length name
seen_length form name = left_length name form.leaves_folders

-- folder and stem are what is left of a name beside the form
stem_length : (form : Form) (name : List ℕ) (stem : List ℕ × List ℕ) → stem_of form name ≡ Some stem →
    length stem.0 + length stem.1 + beside_stem form ≡ length name
stem_length form name stem is =
    let folder = (seen_by form name).0 in
    let file = (seen_by form name).1 in
    fit_length form folder file stem (without_front form.before file) refl (option_and_then (without_end form.after) (without_front form.before file)) refl is
    ∙ seen_length form name

pub longer_stem : (form other : Form) (name : List ℕ) (s t : List ℕ × List ℕ) → stem_of form name ≡ Some s → stem_of other name ≡ Some t →
    (has_longer_stem form other ≡ true) ↔ (length s.0 + length s.1 < length t.0 + length t.1)
longer_stem form other name s t is also =
    let here = stem_length form name s is in
    let there = stem_length other name t also in
    (λ e. grind (arith, here, there, e), λ e. grind (arith, here, there, e))
