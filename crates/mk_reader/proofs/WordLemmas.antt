-- The first word of a line: special names, and the words that begin include lines.
use Rattle.std.proofs.Common.{◌≡◌, ℕ, Bool, true, false, cond, ◌&&◌, ◌||◌, List, [], ◌∷◌, ◌++◌, length, drop, refl, sym, ap, subst, ◌∙◌, ◌⊎◌, inl, inr, Option, Some, None, codes, bytes_eq, find}
use Rattle.std.proofs.lemmas.Slice.Eq.{bytes_eq-Decides}
use Rattle.std.specs.List.{list_any}
use Rattle.std.proofs.Math.Seq.{drop-append_seam}
use Rattle.byte_strings.specs.Blanks.{is_blank, first_word}
use Rattle.mk_profile.specs.Profile.{is_wide}
use Rattle.mk_profile.specs.declared.profile.Profile.{Profile}
use Rattle.mk_profile.specs.declared.profile.Profile.TheVariants as profiles
use Rattle.mk_lines.specs.Text.{is_empty}
use Rattle.mk_reader.specs.Special.{all_names, is_known, special_name, name_text}
use Rattle.mk_reader.specs.Spelled.{begins_blank, BeginsWithWord, BeginsInclude, IsInclude, HasSpecial}
use Rattle.mk_reader.specs.Form.{include_kind}
use Rattle.mk_reader.specs.declared.special.SpecialName.{SpecialName}
use Rattle.mk_reader.specs.declared.special.SpecialName.TheVariants as special
use Rattle.mk_lines.proofs.ReferenceLemmas.{either, and_true}
use Rattle.mk_reader.proofs.BlankLemmas.{starts, before_first_is, before_first_cuts}

-- Special names

names_found : (profile : Profile) (name : SpecialName) → is_known profile name ≡ true → special_name profile (name_text name) ≡ Some name
unfolding special_name
names_found profiles.Strict special.NotParallel e = absurd (cc e)
names_found profiles.Strict special.DeleteOnError e = absurd (cc e)
names_found profiles.Strict special.Depfile e = absurd (cc e)
names_found profiles.Strict special.Console e = absurd (cc e)
names_found profiles.Strict special.Pool e = absurd (cc e)
names_found profiles.Strict special.OneShell e = absurd (cc e)
names_found profiles.Strict special.SecondExpansion e = absurd (cc e)
names_found profiles.Strict special.ExportAllVariables e = absurd (cc e)
names_found profiles.Strict other e = refl
names_found profiles.Posix special.KeepState e = refl
names_found profiles.Posix other e = refl

found_passes : (test : SpecialName → Bool) (names : List SpecialName) (name : SpecialName) → find test names ≡ Some name → test name ≡ true
found_passes test [] name h = absurd (cc h)
found_passes test (n ∷ ns) name h =
    either _ (test n)
    (λ e.
    let same : Some n ≡ Some name = ap (λ t. cond t (Some n) (find test ns)) (sym e) ∙ h in
    let is : n ≡ name = cc same in
    ap test (sym is) ∙ e)
    (λ e. found_passes test ns name (ap (λ t. cond t (Some n) (find test ns)) (sym e) ∙ h))

ends_blank : (rest : List ℕ) → (is_empty rest || starts is_blank rest) ≡ true → (is_empty rest || begins_blank rest) ≡ true
ends_blank [] h = h
ends_blank (b ∷ bs) h = h

ends_blank_back : (rest : List ℕ) → (is_empty rest || begins_blank rest) ≡ true → (is_empty rest || starts is_blank rest) ≡ true
ends_blank_back [] h = h
ends_blank_back (b ∷ bs) h = h

pub word_is : (text word : List ℕ) → BeginsWithWord text word → first_word text ≡ word
unfolding first_word
word_is text word (rest, e, none, ends) = before_first_is is_blank text word rest (e, none, ends_blank_back rest ends)

pub begins_with_first_word : (text : List ℕ) → BeginsWithWord text (first_word text)
unfolding first_word
begins_with_first_word text = let cut = before_first_cuts is_blank text in (cut.0, cut.1.0, cut.1.1, ends_blank cut.0 cut.1.2)

pub has_special : (profile : Profile) (targets : List ℕ) (o : Option SpecialName) → special_name profile (first_word targets) ≡ o → HasSpecial profile targets o
unfolding special_name
has_special profile targets None e =
    λ name known h. absurd (cc (ap (special_name profile) (word_is targets (name_text name) h) ∙ names_found profile name known, e))
has_special profile targets (Some name) e =
    let parts = and_true (bytes_eq (name_text name) (first_word targets)) (is_known profile name)
    (found_passes (λ n. bytes_eq (name_text n) (first_word targets) && is_known profile n) all_names name e) in
    let same : name_text name ≡ first_word targets = (bytes_eq-Decides (name_text name) (first_word targets)).0 parts.0 in
    (parts.1, subst (BeginsWithWord targets) (sym same) (begins_with_first_word targets))

pub special_is : (profile : Profile) (targets : List ℕ) (o : Option SpecialName) → HasSpecial profile targets o → special_name profile (first_word targets) ≡ o
special_is profile targets (Some name) (known, h) = ap (special_name profile) (word_is targets (name_text name) h) ∙ names_found profile name known
special_is profile targets None h = none_left (special_name profile (first_word targets)) refl
  where
    none_left : (o : Option SpecialName) → special_name profile (first_word targets) ≡ o → special_name profile (first_word targets) ≡ None
    none_left None e = e
    none_left (Some name) e = let is = has_special profile targets (Some name) e in absurd (h name is.0 is.1)

-- Words that begin include lines

pub include_bare : (profile : Profile) (word : List ℕ) (required : Bool) → BeginsInclude profile word required → list_any is_blank word ≡ false
include_bare profile word true e = ap (list_any is_blank) e
include_bare profile word false (wide, inl e) = ap (list_any is_blank) e
include_bare profile word false (wide, inr e) = ap (list_any is_blank) e

kind_is : (profile : Profile) (word : List ℕ) (required : Bool) → BeginsInclude profile word required → include_kind profile word ≡ Some required
unfolding include_kind
kind_is profile word true e = ap (include_kind profile) e
kind_is profile word false (wide, inl e) = ap (include_kind profile) e ∙ ap (λ t. cond (t && true) (Some false) None) wide
kind_is profile word false (wide, inr e) = ap (include_kind profile) e ∙ ap (λ t. cond (t && true) (Some false) None) wide

kind_begins : (profile : Profile) (word : List ℕ) (required : Bool) → include_kind profile word ≡ Some required → BeginsInclude profile word required
unfolding include_kind
kind_begins profile word required h =
    let dashed = bytes_eq word (codes "-include") in
    let silent = bytes_eq word (codes "sinclude") in
    either _ (bytes_eq word (codes "include"))
    (λ t.
    let same : Some true ≡ Some required = ap (λ x. cond x (Some true) (cond (is_wide profile && (dashed || silent)) (Some false) None)) (sym t) ∙ h in
    let is : true ≡ required = cc same in
    subst (BeginsInclude profile word) is ((bytes_eq-Decides word (codes "include")).0 t))
    (λ f.
    let later : cond (is_wide profile && (dashed || silent)) (Some false) None ≡ Some required =
    ap (λ x. cond x (Some true) (cond (is_wide profile && (dashed || silent)) (Some false) None)) (sym f) ∙ h in
    either _ (is_wide profile && (dashed || silent))
    (λ t.
    let same : Some false ≡ Some required = ap (λ x. cond x (Some false) None) (sym t) ∙ later in
    let is : false ≡ required = cc same in
    let parts = and_true (is_wide profile) (dashed || silent) t in
    subst (BeginsInclude profile word) is (parts.0, one_word dashed silent (λ e. (bytes_eq-Decides word (codes "-include")).0 e) (λ e. (bytes_eq-Decides word (codes "sinclude")).0 e) parts.1))
    (λ g. absurd (cc (ap (λ x. cond x (Some false) None) (sym g) ∙ later))))
  where
    one_word : (a b : Bool) → (a ≡ true → word ≡ codes "-include") → (b ≡ true → word ≡ codes "sinclude") → (a || b) ≡ true → (word ≡ codes "-include") ⊎ (word ≡ codes "sinclude")
    one_word true b h g e = inl (h refl)
    one_word false b h g e = inr (g e)

-- the kind that is found for the first word of a line, and what is behind it
pub opens_kind : (profile : Profile) (line : List ℕ) (required : Bool) (names : List ℕ) → IsInclude profile line required names →
    (include_kind profile (first_word line) ≡ Some required) × (drop (length (first_word line)) line ≡ names)
opens_kind profile line required names (word, begins, e, ends) =
    let same : first_word line ≡ word = word_is line word (names, e, include_bare profile word required begins, ends) in (
      ap (include_kind profile) same ∙ kind_is profile word required begins,
      ap (λ w. drop (length w) line) same ∙ ap (drop (length word)) e ∙ drop-append_seam word names,
    )

pub kind_opens : (profile : Profile) (line : List ℕ) (required : Bool) → include_kind profile (first_word line) ≡ Some required → IsInclude profile line required (drop (length (first_word line)) line)
kind_opens profile line required e =
    let own = begins_with_first_word line in
    let rest : drop (length (first_word line)) line ≡ own.0 = ap (drop (length (first_word line))) own.1 ∙ drop-append_seam (first_word line) own.0 in
    subst (IsInclude profile line required) (sym rest) (first_word line, kind_begins profile (first_word line) required e, own.1, own.3)

pub include_some : (profile : Profile) (line : List ℕ) (required : Bool) (names : List ℕ) → IsInclude profile line required names → is_empty line ≡ false
include_some profile line required names (word, begins, e, ends) = ap is_empty e ∙ word_some required begins
  where
    word_some : (required : Bool) → BeginsInclude profile word required → is_empty (word ++ names) ≡ false
    word_some true is = ap (λ w. is_empty (w ++ names)) is
    word_some false (wide, inl is) = ap (λ w. is_empty (w ++ names)) is
    word_some false (wide, inr is) = ap (λ w. is_empty (w ++ names)) is
