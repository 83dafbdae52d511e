-- Texts without a backslash, and first words that are their own short forms.
use Rattle.std.proofs.Common.{◌≡◌, ℕ, ◌+◌, false, cond, not, ◌&&◌, ◌||◌, List, [], ◌∷◌, take, drop, refl, sym, ap, ◌∙◌, arith}
use Rattle.std.specs.List.{list_any, position_or_len, before_first}
use Rattle.byte_strings.specs.Blanks.{is_blank, first_word, words}
use Rattle.byte_strings.proofs.WordLemmas.{words-cons}
use Rattle.mk_lines.specs.Text.{is_backslash, begins_with}
use Rattle.mk_lines.proofs.ReferenceLemmas.{either, or_false}
use Rattle.mk_short_names.specs.Short.{begins_here, behind_here, or_here, short_name}
use Rattle.mk_eval.specs.Short.{has_quoted, has_other_names}

pub none_quoted : (text : List ℕ) → list_any is_backslash text ≡ false → has_quoted text ≡ false
none_quoted [] h = refl
none_quoted (b ∷ bs) h =
    let parts = or_false (is_backslash b) (list_any is_backslash bs) h in
    ap (λ t. (t && begins_with 58 bs) || has_quoted bs) parts.0 ∙ none_quoted bs parts.1

none_here : (text : List ℕ) → list_any begins_here (words text) ≡ false → begins_here (before_first is_blank text) ≡ false
none_here [] h = refl
none_here (b ∷ bs) h =
    either _ (is_blank b)
    (λ blank. ap (λ t. begins_here (take (cond (not t) (1 + position_or_len is_blank bs) 0) (b ∷ bs))) blank)
    (λ plain.
    let n = position_or_len is_blank (b ∷ bs) in
    let e = words-cons (b ∷ bs) n refl (omega arith) plain in
    (or_false (begins_here (take n (b ∷ bs))) (list_any begins_here (words (drop n (b ∷ bs)))) (sym (ap (list_any begins_here) e) ∙ h)).0)

-- where no word of a text stands for another name the first one is its own short form
pub first_short : (text : List ℕ) → has_other_names text ≡ false → short_name (first_word text) ≡ first_word text
unfolding first_word
first_short text none =
    let word = before_first is_blank text in
    ap (λ t. cond t (or_here (behind_here (drop 2 word))) word) (none_here text (or_false (list_any begins_here (words text)) (has_quoted text) none).0)
