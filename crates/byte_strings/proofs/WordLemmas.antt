-- The words of a line, one after the other.
use Rattle.std.proofs.Common.{◌≡◌, ℕ, suc, ◌+◌, ◌<◌, ◌≤◌, Bool, true, false, cond, not, List, [], ◌∷◌, ◌++◌, length, take, drop, get_or, filter, refl, sym, ap, ◌∙◌, inl, inr, arith}
use Rattle.std.specs.List.{prefix_len, position_or_len, before_first, after_first, slice_split, onto_first, join_with_byte}
use Rattle.std.proofs.lemmas.List.{drop_more, drop_all, take_all, length-drop, length-take, get_or-drop, nil_from_length}
use Rattle.std.proofs.lemmas.List.Splits.{slice_split_first, slice_split_none, slice_split-cons_yes}
use Rattle.std.proofs.lemmas.List.Sums.{fails_before_first, passes_at_first, prefix_len_stops}
use Rattle.std.proofs.lemmas.Bool.{cases_lt}
use Rattle.byte_strings.specs.Blanks.{is_blank, is_nonempty, trimmed_start, words, HasNoBlank, AreWords}

words-blank : (b : ℕ) (bs : List ℕ) → is_blank b ≡ true → words (b ∷ bs) ≡ words bs
unfolding words
words-blank b bs e = ap (filter is_nonempty) (slice_split-cons_yes is_blank b bs e)

without_blanks_more : (t : Bool) (n b : ℕ) (bs : List ℕ) → is_blank b ≡ t → words (drop n bs) ≡ words bs → words (drop (cond t (1 + n) 0) (b ∷ bs)) ≡ words (b ∷ bs)
without_blanks_more true n b bs e h =
    let more : 1 + n ≡ suc n = omega arith in
    ap (λ k. words (drop k (b ∷ bs))) more ∙ h ∙ sym (words-blank b bs e)
without_blanks_more false n b bs e h = refl

words-without_blanks : (bs : List ℕ) → words (drop (prefix_len is_blank bs) bs) ≡ words bs
words-without_blanks [] = refl
words-without_blanks (b ∷ bs) = without_blanks_more (is_blank b) (prefix_len is_blank bs) b bs refl (words-without_blanks bs)

-- blanks in front are no part of a word
pub words-trimmed_start : (bs : List ℕ) → words (trimmed_start bs) ≡ words bs
unfolding trimmed_start
words-trimmed_start bs = words-without_blanks bs

-- a line of blanks alone has no words
pub words-none : (bs : List ℕ) → length (trimmed_start bs) ≡ 0 → words bs ≡ []
unfolding words
words-none bs h = sym (words-trimmed_start bs) ∙ ap words (nil_from_length (trimmed_start bs) h)

-- the first byte left isn't blank
pub trimmed_start-first : (bs : List ℕ) → 0 < length (trimmed_start bs) → is_blank (get_or (trimmed_start bs) 0 0) ≡ false
unfolding trimmed_start
trimmed_start-first bs h =
    let n = prefix_len is_blank bs in
    let within : n < length bs = omega (arith, length-drop n bs) in
    let at : n + 0 ≡ n = omega arith in
    ap is_blank (get_or-drop n bs 0 0 ∙ ap (λ k. get_or bs k 0) at) ∙ prefix_len_stops is_blank bs 0 within

some_byte : (xs : List ℕ) → 0 < length xs → is_nonempty xs ≡ true
some_byte [] h = absurd (omega arith)
some_byte (x ∷ xs) h = refl

kept_word : (word : List ℕ) (others : List (List ℕ)) → 0 < length word → filter is_nonempty (word ∷ others) ≡ word ∷ filter is_nonempty others
kept_word word others h = ap (λ t. cond t (word ∷ filter is_nonempty others) (filter is_nonempty others)) (some_byte word h)

pub positive : (bs : List ℕ) → 0 < length bs → is_blank (get_or bs 0 0) ≡ false → 0 < position_or_len is_blank bs
positive [] h first = absurd (omega arith)
positive (b ∷ bs) h first =
    let e : position_or_len is_blank (b ∷ bs) ≡ 1 + position_or_len is_blank bs = ap (λ t. cond (not t) (1 + position_or_len is_blank bs) 0) first in
    omega arith

word_before_blank : (bs : List ℕ) → 0 < length bs → is_blank (get_or bs 0 0) ≡ false → position_or_len is_blank bs < length bs → words bs ≡ before_first is_blank bs ∷ words (drop (position_or_len is_blank bs) bs)
unfolding words
word_before_blank bs h first within =
    let n = position_or_len is_blank bs in
    let some : 0 < n = positive bs h first in
    let kept = kept_word (before_first is_blank bs) (slice_split is_blank (after_first is_blank bs)) (omega (arith, length-take n bs)) in
    let blank = words-blank (get_or bs n 0) (drop (n + 1) bs) (passes_at_first is_blank bs 0 within) in
    ap (filter is_nonempty) (slice_split_first is_blank bs 0 within)
    ∙ kept
    ∙ ap (λ ws. before_first is_blank bs ∷ ws) (sym (ap words (drop_more bs n 0 within) ∙ blank))

word_to_end : (bs : List ℕ) → 0 < length bs → length bs ≤ position_or_len is_blank bs → words bs ≡ before_first is_blank bs ∷ words (drop (position_or_len is_blank bs) bs)
unfolding words
word_to_end bs h past =
    let n = position_or_len is_blank bs in
    let one = slice_split_none is_blank bs (λ k d within. fails_before_first is_blank bs k d (omega arith)) in
    ap (filter is_nonempty) one
    ∙ kept_word bs [] h
    ∙ ap (λ w. w ∷ []) (sym (take_all n bs past))
    ∙ ap (λ ws. before_first is_blank bs ∷ ws) (sym (ap words (drop_all n bs past)))

-- a line that begins with no blank begins with its first word
pub words-cons : (bs : List ℕ) (n : ℕ) → n ≡ position_or_len is_blank bs → 0 < length bs → is_blank (get_or bs 0 0) ≡ false → words bs ≡ take n bs ∷ words (drop n bs)
words-cons bs n e h first =
    let whole : words bs ≡ before_first is_blank bs ∷ words (drop (position_or_len is_blank bs) bs) =
    elim (cases_lt (position_or_len is_blank bs) (length bs)) [ inl within ↦ word_before_blank bs h first within | inr past ↦ word_to_end bs h past ] in
    whole ∙ ap (λ k. take k bs ∷ words (drop k bs)) (sym e)

-- a word in front of a space is a part of its own
split-word : (w rest : List ℕ) → HasNoBlank w → slice_split is_blank (w ++ 32 ∷ rest) ≡ w ∷ slice_split is_blank rest
split-word [] rest h = refl
split-word (b ∷ w) rest h =
    let plain : is_blank b ≡ false = h.0 in
    simp plain (ap (onto_first b) (split-word w rest h.1))

split-last : (w : List ℕ) → HasNoBlank w → slice_split is_blank w ≡ w ∷ []
split-last [] h = refl
split-last (b ∷ w) h =
    let plain : is_blank b ≡ false = h.0 in
    simp plain (ap (onto_first b) (split-last w h.1))

-- words that are joined by one space are the words of the text
pub words-joined : (ws : List (List ℕ)) → AreWords ws → words (join_with_byte 32 ws) ≡ ws
unfolding words
words-joined [] h = refl
words-joined (w ∷ []) h =
    let some : is_nonempty w ≡ true = h.0 in
    ap (filter is_nonempty) (split-last w h.1) ∙ rw some refl
words-joined (w ∷ v ∷ ws) h =
    let some : is_nonempty w ≡ true = h.0 in
    ap (filter is_nonempty) (split-word w (join_with_byte 32 (v ∷ ws)) h.1) ∙ rw some (ap (λ t. w ∷ t) (words-joined (v ∷ ws) h.2))

-- nothing is longer without its blanks
pub length-trimmed_start : (bs : List ℕ) → length (trimmed_start bs) ≤ length bs
unfolding trimmed_start
length-trimmed_start bs = omega (arith, length-drop (prefix_len is_blank bs) bs)
