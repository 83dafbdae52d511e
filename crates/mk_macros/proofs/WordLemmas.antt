-- Where the last slash of a word stands, and how changed words are joined.
use Rattle.std.proofs.Common.{map, get_or, ◌≡◌, ℕ, ◌+◌, ◌<◌, ◌≤◌, nat_lt, Bool, true, false, not, cond, List, [], ◌∷◌, ◌++◌, take, length, position, Some, None, refl, sym, ap, ◌∙◌, arith, add-one}
use Rattle.std.specs.List.{prefix_len, join_with_byte}
use Rattle.std.proofs.lemmas.List.{append-nil, append_assoc, take_more, length-take-le, length-map, map_more}
use Rattle.std.proofs.lemmas.Bool.Decides.{nat_tests}
use Rattle.byte_strings.specs.Blanks.{words}
use Rattle.mk_macros.specs.Words.{is_byte, last_slash, WordChange, changed_word, changed_words}

abbrev SlashAfterPush : ℕ → List ℕ → Type 0
SlashAfterPush b bs = last_slash (bs ++ b ∷ []) ≡ cond (is_byte 47 b) (Some (length bs)) (last_slash bs)

slash_push_at : (c : ℕ) (bs : List ℕ) (b : ℕ) (t : Bool) → is_byte 47 b ≡ t → SlashAfterPush b bs → SlashAfterPush b (c ∷ bs)
slash_push_at c bs b true e ih = simp (ih, e) (ap Some (add-one (length bs)))
slash_push_at c bs b false e ih = simp (ih, e) refl

-- one more byte at the end of a word
pub last_slash_push : (bs : List ℕ) (b : ℕ) → last_slash (bs ++ b ∷ []) ≡ cond (is_byte 47 b) (Some (length bs)) (last_slash bs)
last_slash_push [] b = refl
last_slash_push (c ∷ bs) b = slash_push_at c bs b (is_byte 47 b) refl (last_slash_push bs b)

none_of_cond : (t : Bool) (n : ℕ) → cond t (Some n) None ≡ None → t ≡ false
none_of_cond true n e = cc
none_of_cond false n e = refl

pub position-none : (p : ℕ → Bool) (xs : List ℕ) → position p xs ≡ None → length xs ≤ prefix_len (λ x. not (p x)) xs
position-none p xs e =
    let test = none_of_cond (nat_lt (prefix_len (λ x. not (p x)) xs) (length xs)) (prefix_len (λ x. not (p x)) xs) e in
    grind (arith, nat_tests)

-- each word with a space in front
abbrev pub spaced : List (List ℕ) → List ℕ
spaced [] = []
spaced (w ∷ ws) = 32 ∷ (w ++ spaced ws)

pub join_with_byte-spaced : (w : List ℕ) (ws : List (List ℕ)) → join_with_byte 32 (w ∷ ws) ≡ w ++ spaced ws
join_with_byte-spaced w [] = sym (append-nil w)
join_with_byte-spaced w (v ∷ ws) = ap (λ t. w ++ (32 ∷ t)) (join_with_byte-spaced v ws)

-- the words changed and joined, from the first on
pub changed_words-first : (change : WordChange) (value word rest old new : List ℕ) → words value ≡ word ∷ words rest → new ≡ old ++ changed_word change word → new ++ spaced (map (changed_word change) (words rest)) ≡ old ++ changed_words change value
changed_words-first change value word rest old new first made =
    let whole : changed_words change value ≡ changed_word change word ++ spaced (map (changed_word change) (words rest)) =
    ap (λ ws. join_with_byte 32 (map (changed_word change) ws)) first ∙ join_with_byte-spaced (changed_word change word) (map (changed_word change) (words rest)) in
    ap (λ t. t ++ spaced (map (changed_word change) (words rest))) made
    ∙ append_assoc old (changed_word change word) (spaced (map (changed_word change) (words rest)))
    ∙ ap (λ t. old ++ t) (sym whole)

pub last_slash-at_slash : (word : List ℕ) (i : ℕ) → i < length word → get_or word i 0 ≡ 47 → last_slash (take (i + 1) word) ≡ Some i
last_slash-at_slash word i h e =
    let test : is_byte 47 (get_or word i 0) ≡ true = grind (arith, nat_tests) in
    ap last_slash (take_more word i 0 h) ∙ last_slash_push (take i word) (get_or word i 0)
    ∙ rw test (ap Some (length-take-le i word (omega arith)))

pub last_slash-at_other : (word : List ℕ) (i : ℕ) → i < length word → (get_or word i 0 ≡ 47 → ⊥) → last_slash (take (i + 1) word) ≡ last_slash (take i word)
last_slash-at_other word i h e =
    let test : is_byte 47 (get_or word i 0) ≡ false = grind (arith, nat_tests) in
    ap last_slash (take_more word i 0 h) ∙ last_slash_push (take i word) (get_or word i 0) ∙ rw test refl

-- one more word at the end of a text
pub join_with_byte-push : (ws : List (List ℕ)) (w : List ℕ) → 0 < length ws → join_with_byte 32 (ws ++ w ∷ []) ≡ (join_with_byte 32 ws ++ 32 ∷ []) ++ w
join_with_byte-push [] w h = absurd (omega arith)
join_with_byte-push (v ∷ []) w h = sym (append_assoc v (32 ∷ []) w)
join_with_byte-push (v ∷ u ∷ ws) w h =
    ap (λ t. v ++ (32 ∷ t)) (join_with_byte-push (u ∷ ws) w (omega arith))
    ∙ sym (append_assoc v (32 ∷ (join_with_byte 32 (u ∷ ws) ++ 32 ∷ [])) w)
    ∙ ap (λ t. t ++ w) (sym (append_assoc v (32 ∷ join_with_byte 32 (u ∷ ws)) (32 ∷ [])))

module _ {W : Type 0} (bytes_of : W → List ℕ) (ws : List W) (i : ℕ) (d : W) (within : i < length ws) where
  pub joined_next : 0 < i → join_with_byte 32 (map bytes_of (take (i + 1) ws)) ≡ (join_with_byte 32 (map bytes_of (take i ws)) ++ 32 ∷ []) ++ bytes_of (get_or ws i d)
  joined_next some =
      let long : length (map bytes_of (take i ws)) ≡ i = length-map (take i ws) bytes_of ∙ length-take-le i ws (omega arith) in
      ap (join_with_byte 32) (map_more bytes_of ws i d within) ∙ join_with_byte-push (map bytes_of (take i ws)) (bytes_of (get_or ws i d)) (omega arith)

  pub joined_start : i ≡ 0 → join_with_byte 32 (map bytes_of (take (i + 1) ws)) ≡ join_with_byte 32 (map bytes_of (take i ws)) ++ bytes_of (get_or ws i d)
  joined_start none =
      let empty : take i ws ≡ [] = ap (λ n. take n ws) none in
      ap (join_with_byte 32) (map_more bytes_of ws i d within) ∙ rw empty refl
