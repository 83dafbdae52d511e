-- What a substitution does to a word, in terms of what the word is joined from.
use Rattle.std.proofs.Common.{◌≡◌, ◌≢◌, ℕ, suc, ◌+◌, ◌-◌, ◌≤◌, Bool, true, false, not, nat_lt, List, [], ◌∷◌, ◌++◌, take, drop, length, Some, None, Option, option_and_then, append-nil, refl, sym, ap, ◌∙◌, arith, one-add, bytes_eq}
use Rattle.std.specs.List.{prefix_len}
use Rattle.std.specs.Option.{option_map_or}
use Rattle.std.proofs.lemmas.List.{take_at, drop_at, length-append, append_assoc, take-append-drop, length_push}
use Rattle.std.proofs.lemmas.Bool.Decides.{nat_tests}
use Rattle.std.proofs.lemmas.Slice.Eq.{bytes_eq-Decides}
use Rattle.mk_macros.specs.Words.{place_of, is_byte, with_new, pattern_of, without_front, without_end, replacement, by_pattern, changed_word}
use Rattle.mk_macros.proofs.WordLemmas.{position-none}

module _ (q : ℕ → Bool) (c : ℕ) (back : List ℕ) (stop : q c ≡ false) where
  abbrev EndsBefore : List ℕ → Type 0
  EndsBefore front = length front ≤ prefix_len q front → prefix_len q (front ++ c ∷ back) ≡ length front

  ends_before_at : (b : ℕ) (front : List ℕ) (t : Bool) → q b ≡ t → EndsBefore front → EndsBefore (b ∷ front)
  ends_before_at b front true e ih h =
      let g = simp (e, one-add) at h in
      let rest : prefix_len q (front ++ c ∷ back) ≡ length front = ih (omega arith) in
      simp (e, one-add) (ap suc rest)
  ends_before_at b front false e ih h = let g = simp e at h in absurd (omega arith)

  ends_before : (front : List ℕ) → EndsBefore front
  ends_before [] h = simp stop refl
  ends_before (b ∷ front) h = ends_before_at b front (q b) refl (ends_before front) h

-- the first place of a byte that stands behind a text without it
pub place_of-at : (c : ℕ) (front back : List ℕ) → place_of c front ≡ None → place_of c (front ++ c ∷ back) ≡ Some (length front)
place_of-at c front back none =
    let stop : not (is_byte c c) ≡ false = grind (arith, nat_tests) in
    let end : prefix_len (λ x. not (is_byte c x)) (front ++ c ∷ back) ≡ length front = ends_before (λ x. not (is_byte c x)) c back stop front (position-none (is_byte c) front none) in
    let within : nat_lt (length front) (length (front ++ c ∷ back)) ≡ true = (let l = length-append front (c ∷ back) in grind (arith, nat_tests)) in
    rw end (rw within refl)

pub drop-behind : (front : List ℕ) (c : ℕ) (back : List ℕ) → drop (length front + 1) (front ++ c ∷ back) ≡ back
drop-behind front c back =
    ap (drop (length front + 1)) (sym (append_assoc front (c ∷ []) back)) ∙ drop_at (front ++ c ∷ []) back (length front + 1) (length_push front c)

without_front-append : (before word : List ℕ) → without_front before (before ++ word) ≡ Some word
without_front-append before word =
    let test : bytes_eq before before ≡ true = (bytes_eq-Decides before before).1 refl in
    rw (take_at before word (length before) refl, drop_at before word (length before) refl, test) refl

without_end-append : (after stem : List ℕ) → without_end after (stem ++ after) ≡ Some stem
without_end-append after stem =
    let test : bytes_eq after after ≡ true = (bytes_eq-Decides after after).1 refl in
    let n : length stem ≡ length (stem ++ after) - length after = (let l = length-append stem after in omega arith) in
    rw (take_at stem after (length (stem ++ after) - length after) n, drop_at stem after (length (stem ++ after) - length after) n, test) refl

without_end-other_at : (after word : List ℕ) → ((stem : List ℕ) → word ≢ stem ++ after) → (t : Bool) → bytes_eq (drop (length word - length after) word) after ≡ t → without_end after word ≡ None
without_end-other_at after word other true e =
    let n : ℕ = length word - length after in
    let tail : drop n word ≡ after = (bytes_eq-Decides (drop n word) after).0 e in
    absurd (other (take n word) (sym (take-append-drop n word) ∙ ap (λ t. take n word ++ t) tail))
without_end-other_at after word other false e = rw e refl

without_end-other : (after word : List ℕ) → ((stem : List ℕ) → word ≢ stem ++ after) → without_end after word ≡ None
without_end-other after word other = without_end-other_at after word other (bytes_eq (drop (length word - length after) word) after) refl

-- an ending is replaced
pub changed_word-ending : (old new stem : List ℕ) → place_of 37 old ≡ None → changed_word (by_pattern (pattern_of old new)) (stem ++ old) ≡ stem ++ new
changed_word-ending old new stem none = rw none (rw (without_end-append old stem) refl)

-- a word without the ending stays
pub changed_word-other : (old new word : List ℕ) → place_of 37 old ≡ None → ((stem : List ℕ) → word ≢ stem ++ old) → changed_word (by_pattern (pattern_of old new)) word ≡ word
changed_word-other old new word none other = rw none (rw (without_end-other old word other) refl)

-- what stands before and after the stem is replaced
pub changed_word-pattern : (before after front back stem : List ℕ) → place_of 37 before ≡ None → place_of 37 front ≡ None →
    changed_word (by_pattern (pattern_of (before ++ 37 ∷ after) (front ++ 37 ∷ back))) (before ++ (stem ++ after)) ≡ front ++ (stem ++ back)
changed_word-pattern before after front back stem b f =
    let pattern : pattern_of (before ++ 37 ∷ after) (front ++ 37 ∷ back) ≡ record { before = before; after = after; front = front; keeps_stem = true; back = back } =
    rw (place_of-at 37 before after b) (rw (take_at before (37 ∷ after) (length before) refl, drop-behind before 37 after, place_of-at 37 front back f)
    (rw (take_at front (37 ∷ back) (length front) refl, drop-behind front 37 back) refl)) in
    rw pattern (rw (without_front-append before (stem ++ after)) (rw (without_end-append after stem) refl))

-- Patterns with a `%`

pattern_parted : (before after new : List ℕ) → place_of 37 before ≡ None → pattern_of (before ++ 37 ∷ after) new ≡ with_new before after new (place_of 37 new)
pattern_parted before after new b = rw (place_of-at 37 before after b) (rw (take_at before (37 ∷ after) (length before) refl, drop-behind before 37 after) refl)

stem_none_at : (before after word : List ℕ) → ((stem : List ℕ) → word ≢ before ++ (stem ++ after)) → (t : Bool) → bytes_eq (take (length before) word) before ≡ t →
    option_and_then (without_end after) (without_front before word) ≡ None
stem_none_at before after word other true e =
    let rest = drop (length before) word in
    let front : take (length before) word ≡ before = (bytes_eq-Decides (take (length before) word) before).0 e in
    let whole : word ≡ before ++ rest = sym (take-append-drop (length before) word) ∙ ap (λ xs. xs ++ rest) front in
    rw e (without_end-other after rest (λ stem is. other stem (whole ∙ ap (λ xs. before ++ xs) is)))
stem_none_at before after word other false e = rw e refl

stem_none : (before after word : List ℕ) → ((stem : List ℕ) → word ≢ before ++ (stem ++ after)) → option_and_then (without_end after) (without_front before word) ≡ None
stem_none before after word other = stem_none_at before after word other (bytes_eq (take (length before) word) before) refl

other_new : (before after new word : List ℕ) (place : Option ℕ) → ((stem : List ℕ) → word ≢ before ++ (stem ++ after)) → changed_word (by_pattern (with_new before after new place)) word ≡ word
other_new before after new word None other = ap (λ s. option_map_or (replacement (with_new before after new None)) s word) (stem_none before after word other)
other_new before after new word (Some i) other = ap (λ s. option_map_or (replacement (with_new before after new (Some i))) s word) (stem_none before after word other)

-- a word that isn't of the form stays
pub changed_word-other_form : (before after new word : List ℕ) → place_of 37 before ≡ None → ((stem : List ℕ) → word ≢ before ++ (stem ++ after)) →
    changed_word (by_pattern (pattern_of (before ++ 37 ∷ after) new)) word ≡ word
changed_word-other_form before after new word b other =
    ap (λ p. changed_word (by_pattern p) word) (pattern_parted before after new b) ∙ other_new before after new word (place_of 37 new) other

-- a new form without a place for the stem stands for the whole word
pub changed_word-no_place : (before after new stem : List ℕ) → place_of 37 before ≡ None → place_of 37 new ≡ None →
    changed_word (by_pattern (pattern_of (before ++ 37 ∷ after) new)) (before ++ (stem ++ after)) ≡ new
changed_word-no_place before after new stem b n =
    let pattern : pattern_of (before ++ 37 ∷ after) new ≡ record { before = before; after = after; front = new; keeps_stem = false; back = [] } =
    pattern_parted before after new b ∙ ap (with_new before after new) n in
    rw pattern (rw (without_front-append before (stem ++ after)) (rw (without_end-append after stem) (append-nil new)))
