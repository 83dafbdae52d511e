-- Words that change, and words that are exchanged one by one.
use Rattle.std.proofs.Common.{◌≡◌, ◌<◌, arith, ℕ, zero, suc, ◌-◌, ◌&&◌, Bool, true, false, cond, List, [], ◌∷◌, ◌++◌, drop, length, map, refl, sym, ap, ◌∙◌}
use Rattle.mk_words.specs.Words.{is_space, words_of, spaced}
use Rattle.mk_words.specs.Patterns.{pattern_of}
use Rattle.mk_words.specs.Changed.{changed, changed_words, is_next, exchanged}

exchanged-left : (from to : List ℕ) (left : ℕ) (text : List ℕ) → exchanged from to left false text ≡ exchanged from to 0 false (drop left text)
exchanged-left from to zero text = refl
exchanged-left from to (suc left) [] = refl
exchanged-left from to (suc left) (b ∷ bs) = exchanged-left from to left bs

nothing_next : (begins : Bool) (o : ℕ) (os : List ℕ) → (begins && is_next (o ∷ os) []) ≡ true → ⊥
nothing_next true o os h = cc h
nothing_next false o os h = cc h

-- a word that comes next is exchanged whole
pub exchanged-hit : (from to rest : List ℕ) (begins : Bool) → 0 < length from → (begins && is_next from rest) ≡ true → exchanged from to 0 begins rest ≡ to ++ exchanged from to 0 false (drop (length from) rest)
exchanged-hit [] to rest begins h is = absurd (omega (arith, h))
exchanged-hit (o ∷ os) to [] begins h is = absurd (nothing_next begins o os is)
exchanged-hit (o ∷ os) to (b ∷ bs) begins h is =
    let less : length (o ∷ os) - 1 ≡ length os = omega arith in
    let more : length (o ∷ os) ≡ suc (length os) = omega arith in
    let same : drop (length os) bs ≡ drop (length (o ∷ os)) (b ∷ bs) = ap (λ n. drop n (b ∷ bs)) (sym more) in
    ap (λ t. cond t (to ++ exchanged (o ∷ os) to (length (o ∷ os) - 1) false bs) (b ∷ exchanged (o ∷ os) to 0 (is_space b) bs)) is
    ∙ ap (λ n. to ++ exchanged (o ∷ os) to n false bs) less
    ∙ ap (λ v. to ++ v) (exchanged-left (o ∷ os) to (length os) bs ∙ ap (λ v. exchanged (o ∷ os) to 0 false v) same)

-- where something is to stand in the place of words
pub changed-some : (front behind replacement text : List ℕ) → 0 < length replacement → spaced (map (changed front behind (pattern_of replacement)) (words_of text)) ≡ changed_words front behind replacement text
changed-some front behind [] text h = absurd (omega (arith, h))
changed-some front behind (b ∷ bs) text h = refl
