-- What the lines of a report come to.
use Rattle.std.proofs.Common.{◌≡◌, ◌∙◌, ℕ, ◌<◌, ◌≤◌, Bool, true, false, ◌||◌, List, [], ◌∷◌, ◌++◌, length, Option, Some, None, option_copied, Bor, refl, sym, ap, subst, arith, append_assoc, append-nil, lt-ltb, ltb-true}
use Rattle.std.specs.Prelude.{Any}
use Rattle.std.proofs.lemmas.List.Folds.{Any-from_list_any, list_any-from_Any}
use Rattle.mk_profile.specs.declared.profile.Profile.{Profile}
use Rattle.mk_lines.specs.Text.{is_text}
use Rattle.mk_lines.specs.Lines.{joined_lines, lines_left}
use Rattle.st_records.specs.declared.limits.TheConstants.{MAX_NAME_BYTES, MAX_HIDDEN_NAMES}
use Rattle.mk_recipe.specs.declared.report.ReportFault.{ReportFault}
use Rattle.mk_recipe.specs.declared.report.ReportFault.TheVariants.{OutOfMemory, NotText, TooLong, TooMany}
use Rattle.mk_recipe.specs.Report.{has, names_on, mentioned, hidden_names, HasFault, rank, IsFirstFault, IsReportFault, AreHidden}
use Rattle.mk_recipe.specs.Reading.{new_names, is_long, any_long, Reads, Stops}
use Rattle.mk_recipe.proofs.ReportLemmas.{new_names-same, reads_both}

-- ---- names and lines one after the other

-- the names that were read, and those that are left
abbrev pub ReadsSoFar : (whole left seen hidden seen' hidden' : List (List ℕ)) → Bool → Type 0
ReadsSoFar whole left seen hidden seen' hidden' left_out = (done : List (List ℕ)) × (done ++ left ≡ whole) × Reads done seen hidden seen' hidden' left_out

pub so_far_more : (whole left names left' seen hidden seen' hidden' seen'' hidden'' : List (List ℕ)) (a b : Bool) → left ≡ names ++ left'
    → ReadsSoFar whole left seen hidden seen' hidden' a → Reads names seen' hidden' seen'' hidden'' b → ReadsSoFar whole left' seen hidden seen'' hidden'' (a || b)
so_far_more whole left names left' seen hidden seen' hidden' seen'' hidden'' a b l (done, all, read) next = (
  done ++ names,
  append_assoc done names left' ∙ ap (λ (ns : List (List ℕ)). done ++ ns) (sym l) ∙ all,
  reads_both done names seen hidden seen' hidden' seen'' hidden'' a b read next,
)

pub so_far_all : (whole left seen hidden seen' hidden' : List (List ℕ)) (a : Bool) → left ≡ [] → ReadsSoFar whole left seen hidden seen' hidden' a → Reads whole seen hidden seen' hidden' a
so_far_all whole left seen hidden seen' hidden' a l (done, all, read) =
    subst (λ (names : List (List ℕ)). Reads names seen hidden seen' hidden' a) (sym (append-nil done) ∙ ap (λ (ns : List (List ℕ)). done ++ ns) (sym l) ∙ all) read

-- the first line that is left, and those behind it
pub mentioned-cons : (profile : Profile) (target line : List ℕ) (names : List (List ℕ)) (left after : Option (List ℕ)) (lines : Option (List ℕ)) → left ≡ lines → joined_lines lines ≡ line ∷ joined_lines after
    → names ≡ names_on profile target line → mentioned profile target (joined_lines left) ≡ names ++ mentioned profile target (joined_lines after)
mentioned-cons profile target line names left after lines same e n =
    ap (λ (o : Option (List ℕ)). mentioned profile target (joined_lines o)) same
    ∙ ap (λ (ls : List (List ℕ)). mentioned profile target ls) e
    ∙ ap (λ (ns : List (List ℕ)). ns ++ mentioned profile target (joined_lines after)) (sym n)

pub mentioned-none : (profile : Profile) (target : List ℕ) (left : Option (Bor (List ℕ))) → left ≡ None → mentioned profile target (joined_lines (option_copied left)) ≡ []
unfolding joined_lines lines_left
mentioned-none profile target left e = ap (λ (o : Option (Bor (List ℕ))). mentioned profile target (joined_lines (option_copied o))) e

-- ---- the answer

true_false : true ≡ false → ⊥
true_false e = cc

none_long : (names : List (List ℕ)) → any_long names ≡ false → Any (λ name. MAX_NAME_BYTES < length name) names → ⊥
none_long names e (k, name, within, at, long) =
    true_false (sym (list_any-from_Any is_long names (k, name, within, at, lt-ltb MAX_NAME_BYTES (length name) long)) ∙ e)

some_long : (names : List (List ℕ)) → any_long names ≡ true → Any (λ name. MAX_NAME_BYTES < length name) names
some_long names e = longer (Any-from_list_any is_long names e)
  where
    longer : Any (λ name. is_long name ≡ true) names → Any (λ name. MAX_NAME_BYTES < length name) names
    longer (k, name, within, at, long) = (k, name, within, at, ltb-true MAX_NAME_BYTES (length name) long)

-- the names that are new to those that are known are the hidden ones
hidden_is : (profile : Profile) (report target : List ℕ) (known seen : List (List ℕ)) → ((name : List ℕ) → has name seen ≡ has name (target ∷ known))
    → new_names seen (mentioned profile target (joined_lines (Some report))) ≡ hidden_names profile report target known
unfolding hidden_names
hidden_is profile report target known seen same = new_names-same seen (target ∷ known) same (mentioned profile target (joined_lines (Some report)))

short_of : (profile : Profile) (report target : List ℕ) (known seen seen' hidden' : List (List ℕ)) (a : Bool) → ((name : List ℕ) → has name seen ≡ has name (target ∷ known))
    → Reads (mentioned profile target (joined_lines (Some report))) seen [] seen' hidden' a → any_long (hidden_names profile report target known) ≡ false
short_of profile report target known seen seen' hidden' a same read =
    ap any_long (sym (hidden_is profile report target known seen same))
    ∙ ap (λ (ns : List (List ℕ)). any_long (new_names seen ns)) (sym (append-nil (mentioned profile target (joined_lines (Some report)))))
    ∙ sym (read.short [])

-- none was left out
pub all_hidden : (profile : Profile) (report target : List ℕ) (known seen seen' hidden' : List (List ℕ)) → is_text report ≡ true → ((name : List ℕ) → has name seen ≡ has name (target ∷ known))
    → Reads (mentioned profile target (joined_lines (Some report))) seen [] seen' hidden' false → AreHidden profile report target known hidden'
all_hidden profile report target known seen seen' hidden' text same read =
    let is : hidden' ≡ hidden_names profile report target known =
    sym (append-nil hidden') ∙ read.all refl [] ∙ ap (new_names seen) (append-nil (mentioned profile target (joined_lines (Some report)))) ∙ hidden_is profile report target known seen same in
    let few : length hidden' ≤ MAX_HIDDEN_NAMES = read.within (omega arith) in
    record { sound = no_fault profile report target known hidden' text (short_of profile report target known seen seen' hidden' false same read) is few; names_are = is }
  where
    no_fault : (profile : Profile) (report target : List ℕ) (known names : List (List ℕ)) → is_text report ≡ true → any_long (hidden_names profile report target known) ≡ false → names ≡ hidden_names profile report target known
        → length names ≤ MAX_HIDDEN_NAMES → (fault : ReportFault) → HasFault profile report target known fault → ⊥
    no_fault profile report target known names text short is few OutOfMemory h = h
    no_fault profile report target known names text short is few NotText h = true_false (sym text ∙ h)
    no_fault profile report target known names text short is few TooLong h = none_long (hidden_names profile report target known) short h
    no_fault profile report target known names text short is few TooMany h = let same_length : length names ≡ length (hidden_names profile report target known) = ap length is in omega arith

-- one was left out
pub too_many : (profile : Profile) (report target : List ℕ) (known seen seen' hidden' : List (List ℕ)) → is_text report ≡ true → ((name : List ℕ) → has name seen ≡ has name (target ∷ known))
    → Reads (mentioned profile target (joined_lines (Some report))) seen [] seen' hidden' true → IsFirstFault profile report target known TooMany
too_many profile report target known seen seen' hidden' text same read = record {
  there = subst (λ (ns : List (List ℕ)). MAX_HIDDEN_NAMES < length ns)
      (ap (new_names seen) (append-nil (mentioned profile target (joined_lines (Some report)))) ∙ hidden_is profile report target known seen same) (read.more refl []);
  first = least profile report target known text (short_of profile report target known seen seen' hidden' true same read);
}
  where
    least : (profile : Profile) (report target : List ℕ) (known : List (List ℕ)) → is_text report ≡ true → any_long (hidden_names profile report target known) ≡ false
        → (other : ReportFault) → HasFault profile report target known other → rank TooMany ≤ rank other
    least profile report target known text short OutOfMemory h = absurd h
    least profile report target known text short NotText h = absurd (true_false (sym text ∙ h))
    least profile report target known text short TooLong h = absurd (none_long (hidden_names profile report target known) short h)
    least profile report target known text short TooMany h = omega arith

-- it isn't text
pub not_text : (profile : Profile) (report target : List ℕ) (known : List (List ℕ)) → is_text report ≡ false → IsFirstFault profile report target known NotText
not_text profile report target known e = record { there = e; first = least profile report target known }
  where
    least : (profile : Profile) (report target : List ℕ) (known : List (List ℕ)) (other : ReportFault) → HasFault profile report target known other → rank NotText ≤ rank other
    least profile report target known OutOfMemory h = absurd h
    least profile report target known NotText h = omega arith
    least profile report target known TooLong h = omega arith
    least profile report target known TooMany h = omega arith

-- the fault that the reading met
pub stopped : (profile : Profile) (report target : List ℕ) (known seen : List (List ℕ)) (fault : ReportFault) → is_text report ≡ true → ((name : List ℕ) → has name seen ≡ has name (target ∷ known))
    → Stops (mentioned profile target (joined_lines (Some report))) seen fault → IsReportFault profile report target known fault
stopped profile report target known seen OutOfMemory text same h = text
stopped profile report target known seen NotText text same h = absurd h
stopped profile report target known seen TooLong text same h =
    let long : any_long (hidden_names profile report target known) ≡ true = sym (ap any_long
    (ap (new_names seen) (append-nil (mentioned profile target (joined_lines (Some report)))) ∙ hidden_is profile report target known seen same)) ∙ h [] in
    record { there = some_long (hidden_names profile report target known) long; first = least profile report target known text }
  where
    least : (profile : Profile) (report target : List ℕ) (known : List (List ℕ)) → is_text report ≡ true → (other : ReportFault) → HasFault profile report target known other → rank TooLong ≤ rank other
    least profile report target known text OutOfMemory h = absurd h
    least profile report target known text NotText h = absurd (true_false (sym text ∙ h))
    least profile report target known text TooLong h = omega arith
    least profile report target known text TooMany h = omega arith
stopped profile report target known seen TooMany text same h = absurd h
