-- Behind which implicit rules a chain may go on, told by how names end.
use Rattle.std.proofs.Common.{◌≡◌, ◌+◌, ◌-◌, ◌<◌, ◌≤◌, ℕ, zero, suc, Bool, true, false, not, ◌&&◌, ◌||◌, List, [], ◌∷◌, ◌++◌, length, take, drop, get_or, map, Option, Some, None, option_and_then, ⊎_elim, refl, sym, ap, ◌∙◌, arith, bytes_eq}
use Rattle.std.specs.Prelude.{find, is_some, option_map, option_to_list, slice_get, if◌then◌else◌}
use Rattle.std.specs.List.{list_any, list_all}
use Rattle.std.specs.Option.{option_map_or, option_or}
use Rattle.std.proofs.lemmas.Bool.{and_parts, cases_lt, or_left, or_right, or_parts}
use Rattle.std.proofs.lemmas.List.{append_assoc, drop-drop, drop_at, get_or-append-add, length-append, take-append-drop}
use Rattle.std.proofs.lemmas.List.Folds.{find-append}
use Rattle.std.proofs.lemmas.Option.{slice_get-map, slice_get_within, slice_get-get_or}
use Rattle.std.proofs.lemmas.Slice.Eq.{bytes_eq-Decides}
use Rattle.mk_macros.specs.Words.{place_of, last_slash, behind_slash, file_of, without_front, without_end}
use Rattle.mk_rule_lines.specs.Patterns.{folder_of}
use Rattle.mk_makefile.specs.Source.{seen_by, stem_by, stem_of, with_stem, source_at, candidates, source_of}
use Rattle.mk_makefile.specs.declared.form.Form.{Form}
use Rattle.mk_makefile.specs.declared.form.Source.{Source}
use Rattle.mk_nodes.specs.Chain.{makes_any, is_usable, usable, first_that, can_be}
use Rattle.mk_nodes.specs.Links.{end_of, ends_with, end_alike, may_make, leads_on, AreLinks}
use Rattle.mk_sources.proofs.ChainLemmas.{unfit_more, passed_more}
use Rattle.mk_sources.proofs.SourceLemmas.{from_form, candidates-append, taken}

-- ---- how names end

-- of two ends of a text the shorter is an end of the longer
shorter_end : (x a y b : List ℕ) → x ++ a ≡ y ++ b → length a ≤ length b → ends_with b a ≡ true
shorter_end x a y b same le =
    let lengths : length x + length a ≡ length y + length b = sym (length-append x a) ∙ ap length same ∙ length-append y b in
    let d : ℕ = length b - length a in
    let at : length y + d ≡ length x = omega (arith, lengths, le) in
    let tail : drop d b ≡ a
    = ap (drop d) (sym (drop_at y b (length y) refl)) ∙ drop-drop d (length y) (y ++ b) ∙ ap (λ n. drop n (y ++ b)) at ∙ ap (drop (length x)) (sym same)
    ∙ drop_at x a (length x) refl in
    (bytes_eq-Decides a (drop d b)).1 (sym tail)

both_end : (x a y b : List ℕ) → x ++ a ≡ y ++ b → end_alike a b ≡ true
both_end x a y b same =
    ⊎_elim
    (λ less. let le : length a ≤ length b = omega (arith, less) in or_right (ends_with a b) (ends_with b a) (shorter_end x a y b same le))
    (λ more. or_left (ends_with a b) (ends_with b a) (shorter_end y b x a (sym same) more))
    (cases_lt (length a) (length b))

-- a name of a pattern ends as the pattern does
pattern_ends : (folder stem pattern : List ℕ) → (front : List ℕ) × (with_stem folder stem pattern ≡ front ++ end_of pattern)
pattern_ends folder stem pattern = at (place_of 37 pattern) where
  at : (place : Option ℕ) → (front : List ℕ) × (option_map_or (λ i. folder ++ (take i pattern ++ (stem ++ drop (i + 1) pattern))) place pattern
      ≡ front ++ option_map_or (λ i. drop (i + 1) pattern) place pattern)
  at None = ([], refl)
  at (Some i) = (
    folder ++ (take i pattern ++ stem),
    ap (λ t. folder ++ t) (sym (append_assoc (take i pattern) stem (drop (i + 1) pattern))) ∙ sym (append_assoc folder (take i pattern ++ stem) (drop (i + 1) pattern)),
  )

end_left : (after word stem : List ℕ) (t : Bool) → bytes_eq (drop (length word - length after) word) after ≡ t → without_end after word ≡ Some stem → (front : List ℕ) × (word ≡ front ++ after)
end_left after word stem true e is =
    let n : ℕ = length word - length after in
    let tail : drop n word ≡ after = (bytes_eq-Decides (drop n word) after).0 e in
    (take n word, sym (take-append-drop n word) ∙ ap (λ t. take n word ++ t) tail)
end_left after word stem false e is = let none : without_end after word ≡ None = rw e refl in let no : None ≡ Some stem = sym none ∙ is in cc

front_left : (before word behind : List ℕ) (t : Bool) → bytes_eq (take (length before) word) before ≡ t → without_front before word ≡ Some behind → (front : List ℕ) × (word ≡ front ++ behind)
front_left before word behind true e is =
    let n : ℕ = length before in
    let some : without_front before word ≡ Some (drop n word) = rw e refl in
    let same : Some (drop n word) ≡ Some behind = sym some ∙ is in
    let rest : drop n word ≡ behind = cc in
    (take n word, sym (take-append-drop n word) ∙ ap (λ t. take n word ++ t) rest)
front_left before word behind false e is = let none : without_front before word ≡ None = rw e refl in let no : None ≡ Some behind = sym none ∙ is in cc

-- what a form fits ends with what it has behind the stem
fit_ends : (form : Form) (folder file : List ℕ) (stem : List ℕ × List ℕ) (behind : Option (List ℕ)) → without_front form.before file ≡ behind → (rest : Option (List ℕ)) →
    option_and_then (without_end form.after) behind ≡ rest → option_and_then (stem_by form.takes_empty folder) rest ≡ Some stem → (front : List ℕ) × (file ≡ front ++ form.after)
fit_ends form folder file stem None f None g h = cc
fit_ends form folder file stem None f (Some rest) g h = cc
fit_ends form folder file stem (Some behind) f None g h = cc
fit_ends form folder file stem (Some behind) f (Some rest) g h =
    let (x, file_is) = front_left form.before file behind (bytes_eq (take (length form.before) file) form.before) refl f in
    let (y, behind_is) = end_left form.after behind rest (bytes_eq (drop (length behind - length form.after) behind) form.after) refl g in
    (x ++ y, file_is ∙ ap (λ t. x ++ t) behind_is ∙ sym (append_assoc x y form.after))

seen_all : (form : Form) (name : List ℕ) → (seen_by form name).0 ++ (seen_by form name).1 ≡ name
seen_all form name = by form.leaves_folders where
  at : (slash : Option ℕ) → option_map_or (λ i. take (i + 1) name) slash [] ++ behind_slash name slash ≡ name
  at None = refl
  at (Some i) = take-append-drop (i + 1) name

  of : (leaves : Bool) → List ℕ × List ℕ
  of leaves = if leaves then (folder_of name, file_of name) else ([], name)

  by : (leaves : Bool) → (of leaves).0 ++ (of leaves).1 ≡ name
  by true = at (last_slash name)
  by false = refl

form_ends : (form : Form) (name : List ℕ) (stem : List ℕ × List ℕ) → stem_of form name ≡ Some stem → (front : List ℕ) × (name ≡ front ++ form.after)
form_ends form name stem is =
    let folder = (seen_by form name).0 in
    let file = (seen_by form name).1 in
    let (x, file_is) = fit_ends form folder file stem (without_front form.before file) refl (option_and_then (without_end form.after) (without_front form.before file)) refl is in
    (folder ++ x, sym (seen_all form name) ∙ ap (λ t. folder ++ t) file_is ∙ sym (append_assoc folder x form.after))

-- a name whose last byte is another one than that of what the form has behind the stem isn't of the form
same_last : (front after name : List ℕ) (a b : ℕ) → name ≡ front ++ after → slice_get after (length after - 1) ≡ Some a → slice_get name (length name - 1) ≡ Some b → a ≡ b
same_last front after name a b are at_after at_name =
    let k : ℕ = length after - 1 in
    let within = slice_get_within after k a at_after in
    let inside = slice_get_within name (length name - 1) b at_name in
    let whole : length name ≡ length front + length after = ap length are ∙ length-append front after in
    let place : length name - 1 ≡ length front + k = omega (arith, whole, within) in
    let one : Some a ≡ Some (get_or after k b) = sym at_after ∙ slice_get-get_or after k b within in
    let other : Some b ≡ Some (get_or name (length name - 1) b) = sym at_name ∙ slice_get-get_or name (length name - 1) b inside in
    let same : get_or name (length name - 1) b ≡ get_or after k b
    = ap (λ n. get_or name n b) place ∙ ap (λ t. get_or t (length front + k) b) are ∙ get_or-append-add front after k b in
    let first : a ≡ get_or after k b = cc in
    let second : b ≡ get_or name (length name - 1) b = cc in
    first ∙ sym same ∙ sym second

pub other_last : (form : Form) (name : List ℕ) (a b : ℕ) → slice_get form.after (length form.after - 1) ≡ Some a → slice_get name (length name - 1) ≡ Some b → (a ≡ b → ⊥) → stem_of form name ≡ None
other_last form name a b at_after at_name unlike = by (stem_of form name) refl where
  by : (s : Option (List ℕ × List ℕ)) → stem_of form name ≡ s → s ≡ None
  by None is = refl
  by (Some s) is = let (x, ends) = form_ends form name s is in absurd (unlike (same_last x form.after name a b ends at_after at_name))

-- a form makes no name of a pattern that ends otherwise
other_end : (form : Form) (folder stem pattern : List ℕ) → end_alike (end_of pattern) form.after ≡ false → stem_of form (with_stem folder stem pattern) ≡ None
other_end form folder stem pattern unlike = by (stem_of form (with_stem folder stem pattern)) refl where
  by : (s : Option (List ℕ × List ℕ)) → stem_of form (with_stem folder stem pattern) ≡ s → s ≡ None
  by None is = refl
  by (Some s) is =
      let (x, name_is) = pattern_ends folder stem pattern in
      let (y, ends) = form_ends form (with_stem folder stem pattern) s is in
      let alike : true ≡ false = sym (both_end x (end_of pattern) y form.after (sym name_is ∙ ends)) ∙ unlike in
      cc

-- ---- names that no rule makes on the way of a chain

false_behind : (a b : Bool) → a ≡ true → (a && b) ≡ false → b ≡ false
false_behind true b is e = e
false_behind false b is e = cc

module _ (fewer : List ℕ) (folder stem pattern : List ℕ) where
  none_of : (form : Form) (forms : List Form) → may_make pattern form ≡ false → (u : Bool) → is_usable false fewer form ≡ u →
      candidates (usable false fewer (form ∷ forms)) (with_stem folder stem pattern) ≡ candidates (usable false fewer forms) (with_stem folder stem pattern)
  none_of form forms lacks false is = simp is refl
  none_of form forms lacks true is =
      let typed : not (makes_any form) ≡ true = (and_parts (not (makes_any form)) _ is).0 in
      let none : stem_of form (with_stem folder stem pattern) ≡ None
      = other_end form folder stem pattern (false_behind (not (makes_any form)) (end_alike (end_of pattern) form.after) typed lacks) in
      simp is (ap (λ found. option_to_list (option_map (source_at form) found) ++ candidates (usable false fewer forms) (with_stem folder stem pattern)) none)

  no_candidates : (forms : List Form) → list_any (may_make pattern) forms ≡ false → candidates (usable false fewer forms) (with_stem folder stem pattern) ≡ []
  no_candidates [] none = refl
  no_candidates (form ∷ forms) none =
      let parts = or_parts (may_make pattern form) (list_any (may_make pattern) forms) none in
      none_of form forms parts.0 (is_usable false fewer form) refl ∙ no_candidates forms parts.1

or_none : (b : Bool) → (b || false) ≡ b
or_none true = refl
or_none false = refl

module _ (there : List ℕ → Bool) (forms : List Form) where
  -- in any number of steps such a name can be where it is there
  only_there : (steps : ℕ) (fewer folder stem pattern : List ℕ) → list_any (may_make pattern) forms ≡ false →
      can_be there forms steps fewer (with_stem folder stem pattern) ≡ there (with_stem folder stem pattern)
  only_there zero fewer folder stem pattern none = refl
  only_there (suc steps) fewer folder stem pattern none =
      let name = with_stem folder stem pattern in
      ap (λ cs. there name || is_some (find (λ source. list_all (can_be there forms steps (source.rule ∷ fewer)) source.names) cs)) (no_candidates fewer folder stem pattern forms none)
      ∙ or_none (there name)

  all_there : (steps : ℕ) (fewer folder stem : List ℕ) (patterns : List (List ℕ)) → list_any (λ pattern. list_any (may_make pattern) forms) patterns ≡ false →
      list_all (can_be there forms steps fewer) (map (with_stem folder stem) patterns) ≡ list_all there (map (with_stem folder stem) patterns)
  all_there steps fewer folder stem [] none = refl
  all_there steps fewer folder stem (pattern ∷ patterns) none =
      let parts = or_parts (list_any (may_make pattern) forms) (list_any (λ p. list_any (may_make p) forms) patterns) none in
      ap (λ b. b && list_all (can_be there forms steps fewer) (map (with_stem folder stem) patterns)) (only_there steps fewer folder stem pattern parts.0)
      ∙ ap (λ b. there (with_stem folder stem pattern) && b) (all_there steps fewer folder stem patterns parts.1)

  -- the names of a form behind which no chain goes on can be where they are there
  pub ends_there : (steps : ℕ) (fewer : List ℕ) (form : Form) (stem : List ℕ × List ℕ) → leads_on forms form ≡ false →
      list_all (can_be there forms steps fewer) (source_at form stem).names ≡ list_all there (source_at form stem).names
  ends_there steps fewer form stem none = all_there steps fewer stem.0 stem.1 form.prerequisites none

  -- so such a form is passed over where its candidate isn't there
  module _ (name : List ℕ) (lacks : source_of there forms name ≡ None) (k : ℕ) (form : Form) (within : k < length forms) (is : form ≡ get_or forms k form) where
    some_found : (found : Option Source) (source : Source) → option_or found (Some source) ≡ None → false ≡ true
    some_found None source e = cc
    some_found (Some s) source e = cc

    not_there : (stem : List ℕ × List ℕ) → stem_of form name ≡ Some stem → list_all there (source_at form stem).names ≡ false
    not_there stem fits = by (list_all there (source_at form stem).names) refl where
      by : (b : Bool) → list_all there (source_at form stem).names ≡ b → b ≡ false
      by false e = refl
      by true e =
          let tests : Source → Bool = λ source. list_all there source.names in
          let more : List Form = drop (k + 1) forms in
          let whole : source_of there forms name ≡ option_or (source_of there (take k forms) name) (Some (source_at form stem))
          = ap (λ fs. source_of there fs name) (sym (take-append-drop k forms) ∙ ap (λ fs. take k forms ++ fs) (from_form forms k form within is))
          ∙ ap (find tests) (candidates-append (take k forms) (form ∷ more) name)
          ∙ find-append tests (candidates (take k forms) name) (candidates (form ∷ more) name)
          ∙ ap (option_or (source_of there (take k forms) name)) (taken there form more name stem fits e) in
          sym (some_found (source_of there (take k forms) name) (source_at form stem) (sym whole ∙ lacks))

    fit_of : (u : Bool) (s : Option (List ℕ × List ℕ)) (stem : List ℕ × List ℕ) → (if u then s else None) ≡ Some stem → s ≡ Some stem
    fit_of true s stem e = e
    fit_of false s stem e = cc

    pub passed_over : (any : Bool) (steps : ℕ) → leads_on forms form ≡ false →
        first_that (λ rule. can_be there forms steps (rule ∷ [])) (usable any [] (take k forms)) name ≡ None →
        first_that (λ rule. can_be there forms steps (rule ∷ [])) (usable any [] (take (k + 1) forms)) name ≡ None
    passed_over any steps none so_far = by (if is_usable any [] form then stem_of form name else None) refl where
      can : ℕ → List ℕ → Bool
      can rule = can_be there forms steps (rule ∷ [])

      by : (s : Option (List ℕ × List ℕ)) → (if is_usable any [] form then stem_of form name else None) ≡ s →
          first_that (λ rule. can_be there forms steps (rule ∷ [])) (usable any [] (take (k + 1) forms)) name ≡ None
      by None e = unfit_more name any [] forms k form within is (λ rule. can_be there forms steps (rule ∷ [])) so_far e
      by (Some stem) e =
          passed_more name any [] forms k form within is (λ rule. can_be there forms steps (rule ∷ [])) so_far stem e
          (ends_there steps (form.rule ∷ []) form stem none ∙ not_there stem (fit_of (is_usable any [] form) (stem_of form name) stem e))

-- ---- what is known of each form

pub links_are : (forms : List Form) (links : List Bool) → links ≡ map (leads_on forms) forms → AreLinks forms links
links_are forms links are k form marked at =
    let read : slice_get links k ≡ option_map (leads_on forms) (slice_get forms k) = ap (λ ls. slice_get ls k) are ∙ slice_get-map (leads_on forms) forms k in
    let same : Some false ≡ Some (leads_on forms form) = sym marked ∙ read ∙ ap (option_map (leads_on forms)) at in
    cc

pub no_links : (forms : List Form) (links : List Bool) → links ≡ [] → AreLinks forms links
no_links forms links are k form marked at = let none : None ≡ Some false = ap (λ (ls : List Bool). slice_get ls k) (sym are) ∙ marked in cc
