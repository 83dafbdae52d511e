-- The words of a text, one after the other.
use Rattle.std.proofs.Common.{◌≡◌, ℕ, zero, suc, ◌+◌, ◌-◌, ◌<◌, ◌≤◌, Bool, true, false, cond, not, List, [], ◌∷◌, length, take, drop, get_or, filter, refl, sym, ap, ◌∙◌, Some, ◌⊎◌, inl, inr, arith}
use Rattle.std.specs.List.{prefix_len, position_or_len, before_first, after_first, slice_split}
use Rattle.std.proofs.lemmas.List.{drop_more, drop_all, take_all, length-drop, length-take, get_or-drop, nil_from_length}
use Rattle.std.proofs.lemmas.List.Splits.{slice_split_first, slice_split_none, slice_split-cons_yes}
use Rattle.std.proofs.lemmas.List.Sums.{fails_before_first, passes_at_first, prefix_len_stops}
use Rattle.std.proofs.lemmas.Bool.{cases_lt}
use Rattle.byte_strings.specs.Blanks.{is_nonempty}
use Rattle.mk_words.specs.Words.{is_space, behind_spaces, behind_word, behind_words, words_of}
use Rattle.mk_words.specs.Counted.{first_word, numbered_word}

words_of-space : (b : ℕ) (bs : List ℕ) → is_space b ≡ true → words_of (b ∷ bs) ≡ words_of bs
unfolding words_of
words_of-space b bs e = ap (filter is_nonempty) (slice_split-cons_yes is_space b bs e)

without_spaces_more : (t : Bool) (n b : ℕ) (bs : List ℕ) → is_space b ≡ t → words_of (drop n bs) ≡ words_of bs → words_of (drop (cond t (1 + n) 0) (b ∷ bs)) ≡ words_of (b ∷ bs)
without_spaces_more true n b bs e h =
    let more : 1 + n ≡ suc n = omega arith in
    ap (λ k. words_of (drop k (b ∷ bs))) more ∙ h ∙ sym (words_of-space b bs e)
without_spaces_more false n b bs e h = refl

words_of-without_spaces : (bs : List ℕ) → words_of (drop (prefix_len is_space bs) bs) ≡ words_of bs
words_of-without_spaces [] = refl
words_of-without_spaces (b ∷ bs) = without_spaces_more (is_space b) (prefix_len is_space bs) b bs refl (words_of-without_spaces bs)

-- spaces in front are no part of a word
pub words_of-behind_spaces : (bs : List ℕ) → words_of (behind_spaces bs) ≡ words_of bs
unfolding behind_spaces
words_of-behind_spaces bs = words_of-without_spaces bs

-- a text of spaces alone has no words
pub words_of-none : (bs : List ℕ) → length (behind_spaces bs) ≡ 0 → words_of bs ≡ []
unfolding words_of
words_of-none bs h = sym (words_of-behind_spaces bs) ∙ ap words_of (nil_from_length (behind_spaces bs) h)

pub behind_word-none : (bs : List ℕ) → length (behind_spaces bs) ≡ 0 → behind_word bs ≡ []
unfolding behind_word
behind_word-none bs h = ap (λ (t : List ℕ). drop (position_or_len is_space t) t) (nil_from_length (behind_spaces bs) h)

-- the first byte left isn't a space
pub behind_spaces-first : (bs : List ℕ) → 0 < length (behind_spaces bs) → is_space (get_or (behind_spaces bs) 0 0) ≡ false
unfolding behind_spaces
behind_spaces-first bs h =
    let n = prefix_len is_space bs in
    let within : n < length bs = omega (arith, length-drop n bs) in
    let at : n + 0 ≡ n = omega arith in
    ap is_space (get_or-drop n bs 0 0 ∙ ap (λ k. get_or bs k 0) at) ∙ prefix_len_stops is_space bs 0 within

some_byte : (xs : List ℕ) → 0 < length xs → is_nonempty xs ≡ true
some_byte [] h = absurd (omega arith)
some_byte (x ∷ xs) h = refl

kept_word : (word : List ℕ) (others : List (List ℕ)) → 0 < length word → filter is_nonempty (word ∷ others) ≡ word ∷ filter is_nonempty others
kept_word word others h = ap (λ t. cond t (word ∷ filter is_nonempty others) (filter is_nonempty others)) (some_byte word h)

pub positive : (bs : List ℕ) → 0 < length bs → is_space (get_or bs 0 0) ≡ false → 0 < position_or_len is_space bs
positive [] h first = absurd (omega arith)
positive (b ∷ bs) h first =
    let e : position_or_len is_space (b ∷ bs) ≡ 1 + position_or_len is_space bs = ap (λ t. cond (not t) (1 + position_or_len is_space bs) 0) first in
    omega arith

word_before_space : (bs : List ℕ) → 0 < length bs → is_space (get_or bs 0 0) ≡ false → position_or_len is_space bs < length bs → words_of bs ≡ before_first is_space bs ∷ words_of (drop (position_or_len is_space bs) bs)
unfolding words_of
word_before_space bs h first within =
    let n = position_or_len is_space bs in
    let some : 0 < n = positive bs h first in
    let kept = kept_word (before_first is_space bs) (slice_split is_space (after_first is_space bs)) (omega (arith, length-take n bs)) in
    let space = words_of-space (get_or bs n 0) (drop (n + 1) bs) (passes_at_first is_space bs 0 within) in
    ap (filter is_nonempty) (slice_split_first is_space bs 0 within)
    ∙ kept
    ∙ ap (λ ws. before_first is_space bs ∷ ws) (sym (ap words_of (drop_more bs n 0 within) ∙ space))

word_to_end : (bs : List ℕ) → 0 < length bs → length bs ≤ position_or_len is_space bs → words_of bs ≡ before_first is_space bs ∷ words_of (drop (position_or_len is_space bs) bs)
unfolding words_of
word_to_end bs h past =
    let n = position_or_len is_space bs in
    let one = slice_split_none is_space bs (λ k d within. fails_before_first is_space bs k d (omega arith)) in
    ap (filter is_nonempty) one
    ∙ kept_word bs [] h
    ∙ ap (λ w. w ∷ []) (sym (take_all n bs past))
    ∙ ap (λ ws. before_first is_space bs ∷ ws) (sym (ap words_of (drop_all n bs past)))

-- a text that begins with no space begins with its first word
pub words_of-cons : (bs : List ℕ) (n : ℕ) → n ≡ position_or_len is_space bs → 0 < length bs → is_space (get_or bs 0 0) ≡ false → words_of bs ≡ take n bs ∷ words_of (drop n bs)
words_of-cons bs n e h first =
    let whole : words_of bs ≡ before_first is_space bs ∷ words_of (drop (position_or_len is_space bs) bs) =
    elim (cases_lt (position_or_len is_space bs) (length bs)) [ inl within ↦ word_before_space bs h first within | inr past ↦ word_to_end bs h past ] in
    whole ∙ ap (λ k. take k bs ∷ words_of (drop k bs)) (sym e)

-- nothing is longer without its spaces
pub length-behind_spaces : (bs : List ℕ) → length (behind_spaces bs) ≤ length bs
unfolding behind_spaces
length-behind_spaces bs = omega (arith, length-drop (prefix_len is_space bs) bs)

behind_word-empty : behind_word [] ≡ []
unfolding behind_word behind_spaces
behind_word-empty = refl

behind_words-empty : (n : ℕ) → behind_words n [] ≡ []
behind_words-empty zero = refl
behind_words-empty (suc n) = ap (behind_words n) behind_word-empty ∙ behind_words-empty n

-- nothing stands behind words that aren't there
pub behind_words-none : (n : ℕ) (text : List ℕ) → 0 < n → behind_word text ≡ [] → behind_words n text ≡ []
behind_words-none zero text h e = absurd (omega (arith, h))
behind_words-none (suc n) text h e = ap (behind_words n) e ∙ behind_words-empty n

-- without a word a text is shorter
length-behind_word : (text : List ℕ) → length (behind_word text) ≤ length text - 1
unfolding behind_word
length-behind_word text = at (cases_lt 0 (length (behind_spaces text)))
  where
    at : (0 < length (behind_spaces text)) ⊎ (length (behind_spaces text) ≤ 0) → length (drop (position_or_len is_space (behind_spaces text)) (behind_spaces text)) ≤ length text - 1
    at (inl some) =
        let first : 0 < position_or_len is_space (behind_spaces text) = positive (behind_spaces text) some (behind_spaces-first text some) in
        omega (arith, length-drop (position_or_len is_space (behind_spaces text)) (behind_spaces text), length-behind_spaces text)
    at (inr none) = omega (arith, length-drop (position_or_len is_space (behind_spaces text)) (behind_spaces text))

-- nothing stands behind more words than there are bytes
pub behind_words-all : (n : ℕ) (text : List ℕ) → length text ≤ n → behind_words n text ≡ []
behind_words-all zero text h = nil_from_length text (omega (arith, h))
behind_words-all (suc n) text h = behind_words-all n (behind_word text) (omega (arith, h, length-behind_word text))

words_of-empty : words_of [] ≡ []
unfolding words_of
words_of-empty = refl

words_of-behind_word : (text : List ℕ) → words_of (behind_word text) ≡ drop 1 (words_of text)
unfolding behind_word
words_of-behind_word text = at (cases_lt 0 (length (behind_spaces text)))
  where
    at : (0 < length (behind_spaces text)) ⊎ (length (behind_spaces text) ≤ 0) → words_of (drop (position_or_len is_space (behind_spaces text)) (behind_spaces text)) ≡ drop 1 (words_of text)
    at (inl some) =
        ap (drop 1) (sym (words_of-cons (behind_spaces text) (position_or_len is_space (behind_spaces text)) refl some (behind_spaces-first text some)) ∙ words_of-behind_spaces text)
    at (inr none) =
        ap words_of (behind_word-none text (omega (arith, none))) ∙ words_of-empty ∙ ap (drop 1) (sym (words_of-none text (omega (arith, none))))

drop-drop_one : (n : ℕ) (ws : List (List ℕ)) → drop n (drop 1 ws) ≡ drop (suc n) ws
drop-drop_one zero [] = refl
drop-drop_one (suc n) [] = refl
drop-drop_one n (w ∷ ws) = refl

words_of-behind_words : (n : ℕ) (text : List ℕ) → words_of (behind_words n text) ≡ drop n (words_of text)
words_of-behind_words zero text = refl
words_of-behind_words (suc n) text = words_of-behind_words n (behind_word text) ∙ ap (drop n) (words_of-behind_word text) ∙ drop-drop_one n (words_of text)

first_word-drop : (n : ℕ) (ws : List (List ℕ)) → first_word (drop n ws) ≡ get_or ws n []
first_word-drop zero [] = refl
first_word-drop (suc n) [] = refl
first_word-drop zero (w ∷ ws) = refl
first_word-drop (suc n) (w ∷ ws) = first_word-drop n ws

pub word-behind : (n : ℕ) (text : List ℕ) → first_word (words_of (behind_words n text)) ≡ get_or (words_of text) n []
word-behind n text = ap first_word (words_of-behind_words n text) ∙ first_word-drop n (words_of text)

-- a word by its number
pub numbered-first : (number before : ℕ) (text front word : List ℕ) → number ≡ before + 1 → front ≡ behind_words before text → word ≡ first_word (words_of front) → Some word ≡ numbered_word number (words_of text)
numbered-first number before text front word e at is =
    let more : number ≡ suc before = omega (arith, e) in
    ap Some (is ∙ ap (λ t. first_word (words_of t)) at ∙ word-behind before text)
    ∙ ap (λ n. numbered_word n (words_of text)) (sym more)
