-- Lines without what stands at their ends.
use Rattle.std.proofs.Common.{◌≡◌, ℕ, zero, suc, ◌≤◌, List, [], ◌∷◌, ◌++◌, take, length, refl, sym, ap, ◌∙◌, subst}
use Rattle.byte_strings.specs.Blanks.{trimmed_end}
use Rattle.mk_words.specs.Words.{behind_spaces}
use Rattle.mk_words.proofs.WordLemmas.{length-behind_spaces}
use Rattle.mk_target_lines.specs.OneLine.{without_backslash, ended}

take_front : (m k : ℕ) (xs : List ℕ) → take (length (take m (take k xs))) xs ≡ take m (take k xs)
take_front zero k xs = refl
take_front (suc m) zero xs = refl
take_front (suc m) (suc k) [] = refl
take_front (suc m) (suc k) (x ∷ xs) = ap (λ ys. x ∷ ys) (take_front m k xs)

front_of : (xs : List ℕ) → take (length (trimmed_end (without_backslash xs))) xs ≡ trimmed_end (without_backslash xs)
unfolding trimmed_end without_backslash
front_of xs = take_front _ _ xs

-- a text that is shortened to its line without the backslash and the blanks
pub line_ended : (xs : List ℕ) (n : ℕ) → n ≡ length (trimmed_end (without_backslash xs)) → take n xs ++ 32 ∷ [] ≡ ended xs
line_ended xs n is = ap (λ k. take k xs ++ 32 ∷ []) is ∙ ap (λ ys. ys ++ 32 ∷ []) (front_of xs)

pub spaces_within : (text line : List ℕ) → line ≡ behind_spaces text → length line ≤ length text
spaces_within text line is = subst (λ t. length t ≤ length text) (sym is) (length-behind_spaces text)
