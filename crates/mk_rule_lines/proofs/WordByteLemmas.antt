-- Which bytes the words of a text have.
use Rattle.std.proofs.Common.{◌≡◌, ℕ, Bool, true, false, not, ◌||◌, ◌==◌, List, [], ◌∷◌, filter, refl, sym, ap, ◌∙◌}
use Rattle.std.specs.List.{list_all, list_any, slice_split, onto_first}
use Rattle.mk_lines.specs.Text.{is_empty}
use Rattle.std.proofs.Math.Bool.{or_assoc}
use Rattle.std.proofs.lemmas.Bool.{eqb-true, or_parts}
use Rattle.std.proofs.lemmas.List.Splits.{slice_split-cons_yes, slice_split-cons_no}
use Rattle.byte_strings.specs.Blanks.{is_blank, is_nonempty, words}
use Rattle.mk_rule_lines.specs.Signs.{is_sign}

abbrev pub has_byte : (byte : ℕ) → List ℕ → Bool
has_byte byte = list_any (λ b. b == byte)

or_nothing : (a : Bool) → (a || false) ≡ a
or_nothing true = refl
or_nothing false = refl

in_first : (byte b : ℕ) (parts : List (List ℕ)) → list_any (has_byte byte) (onto_first b parts) ≡ (b == byte || list_any (has_byte byte) parts)
in_first byte b [] = or_nothing (b == byte || false)
in_first byte b (part ∷ parts) = or_assoc (b == byte) (has_byte byte part) (list_any (has_byte byte) parts)

-- a blank is another byte than one that is no blank
apart : (byte b : ℕ) → is_blank byte ≡ false → is_blank b ≡ true → (t : Bool) → (b == byte) ≡ t → (b == byte) ≡ false
apart byte b plain blank true same = let alike : is_blank b ≡ is_blank byte = ap is_blank (eqb-true b byte same) in cc
apart byte b plain blank false same = same

in_parts_at : (byte : ℕ) → is_blank byte ≡ false → (b : ℕ) (text : List ℕ) (t : Bool) → is_blank b ≡ t
    → list_any (has_byte byte) (slice_split is_blank text) ≡ has_byte byte text → list_any (has_byte byte) (slice_split is_blank (b ∷ text)) ≡ has_byte byte (b ∷ text)
in_parts_at byte plain b text true e rest =
    ap (list_any (has_byte byte)) (slice_split-cons_yes is_blank b text e) ∙ rest
    ∙ ap (λ t. t || has_byte byte text) (sym (apart byte b plain e (b == byte) refl))
in_parts_at byte plain b text false e rest =
    ap (list_any (has_byte byte)) (slice_split-cons_no is_blank b text e) ∙ in_first byte b (slice_split is_blank text)
    ∙ ap (λ t. b == byte || t) rest

in_parts : (byte : ℕ) → is_blank byte ≡ false → (text : List ℕ) → list_any (has_byte byte) (slice_split is_blank text) ≡ has_byte byte text
in_parts byte plain [] = refl
in_parts byte plain (b ∷ text) = in_parts_at byte plain b text (is_blank b) refl (in_parts byte plain text)

in_nonempty : (byte : ℕ) (parts : List (List ℕ)) → list_any (has_byte byte) (filter is_nonempty parts) ≡ list_any (has_byte byte) parts
in_nonempty byte [] = refl
in_nonempty byte ([] ∷ parts) = in_nonempty byte parts
in_nonempty byte ((b ∷ bs) ∷ parts) = ap (λ t. has_byte byte (b ∷ bs) || t) (in_nonempty byte parts)

-- a byte that is no blank stands in a word where it stands in the text
pub byte_in_words : (byte : ℕ) → is_blank byte ≡ false → (text : List ℕ) → list_any (has_byte byte) (words text) ≡ has_byte byte text
unfolding words
byte_in_words byte plain text = in_nonempty byte (slice_split is_blank text) ∙ in_parts byte plain text

-- what no byte of the text is, none of its words has
none_at : (byte b : ℕ) (bs : List ℕ) (t : Bool) → (b == byte) ≡ t → ((b == byte) ≡ true → is_sign b ≡ true) → is_sign b ≡ false → has_byte byte bs ≡ false
    → has_byte byte (b ∷ bs) ≡ false
none_at byte b bs true e sign other rest = let one : is_sign b ≡ true = sign e in cc
none_at byte b bs false e sign other rest = simp e rest

none_in_text : (byte : ℕ) → ((b : ℕ) → (b == byte) ≡ true → is_sign b ≡ true) → (text : List ℕ) → list_any is_sign text ≡ false → has_byte byte text ≡ false
none_in_text byte sign [] none = refl
none_in_text byte sign (b ∷ bs) none =
    let parts = or_parts (is_sign b) (list_any is_sign bs) none in
    none_at byte b bs (b == byte) refl (sign b) parts.0 (none_in_text byte sign bs parts.1)

signed : (byte : ℕ) → is_sign byte ≡ true → (b : ℕ) → (b == byte) ≡ true → is_sign b ≡ true
signed byte sign b same = ap is_sign (eqb-true b byte same) ∙ sign

pub none_in_words : (byte : ℕ) → is_sign byte ≡ true → is_blank byte ≡ false → (text : List ℕ) → list_any is_sign text ≡ false
    → list_any (list_any (λ b. b == byte)) (words text) ≡ false
none_in_words byte sign plain text none = byte_in_words byte plain text ∙ none_in_text byte (signed byte sign) text none

-- nor has the text
pub no_dollar : (text : List ℕ) → list_any is_sign text ≡ false → list_any (λ b. b == 36) text ≡ false
no_dollar = none_in_text 36 (signed 36 refl)

pub from_not : (b : Bool) → not b ≡ false → b ≡ true
from_not true none = refl
from_not false none = cc

-- a text of blanks alone has no words, and only such a text
pub first_word_at : (b : ℕ) (parts : List (List ℕ)) → is_empty (filter is_nonempty (onto_first b parts)) ≡ false
first_word_at b [] = refl
first_word_at b (part ∷ parts) = refl

blank_at : (b : ℕ) (text : List ℕ) (t : Bool) → is_blank b ≡ t → list_all is_blank text ≡ is_empty (words text)
    → list_all is_blank (b ∷ text) ≡ is_empty (words (b ∷ text))
unfolding words
blank_at b text true e rest =
    simp e rest ∙ ap (λ ps. is_empty (filter is_nonempty ps)) (sym (slice_split-cons_yes is_blank b text e))
blank_at b text false e rest =
    simp e refl ∙ sym (ap (λ ps. is_empty (filter is_nonempty ps)) (slice_split-cons_no is_blank b text e) ∙ first_word_at b (slice_split is_blank text))

pub blanks_alone : (text : List ℕ) → list_all is_blank text ≡ is_empty (words text)
unfolding words
blanks_alone [] = refl
blanks_alone (b ∷ text) = blank_at b text (is_blank b) refl (blanks_alone text)
