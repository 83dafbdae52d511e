-- Arguments put together again are the text that was cut.
use Rattle.std.proofs.Common.{◌≡◌, ℕ, ◌-◌, Bool, true, false, cond, List, [], ◌∷◌, refl, sym, ap, ◌∙◌, arith}
use Rattle.std.specs.List.{join_with_byte}
use Rattle.mk_pieces.specs.Brackets.{is_parting, with_byte, next_depth, parted}

behind_comma_by : (t : Bool) (b : ℕ) (xs ys : List (List ℕ)) →
    join_with_byte 44 ([] ∷ cond t ([] ∷ xs) (with_byte b ys)) ≡ 44 ∷ join_with_byte 44 (cond t ([] ∷ xs) (with_byte b ys))
behind_comma_by true b xs ys = refl
behind_comma_by false b xs [] = refl
behind_comma_by false b xs (y ∷ ys) = refl

behind_comma : (opening close m depth : ℕ) (text : List ℕ) →
    join_with_byte 44 ([] ∷ parted opening close m depth text) ≡ 44 ∷ join_with_byte 44 (parted opening close m depth text)
behind_comma opening close m depth [] = refl
behind_comma opening close m depth (b ∷ text) =
    behind_comma_by (is_parting m depth b) b (parted opening close (m - 1) 0 text) (parted opening close m (next_depth opening close depth b) text)

byte_in_front : (b : ℕ) (xs : List (List ℕ)) → join_with_byte 44 (with_byte b xs) ≡ b ∷ join_with_byte 44 xs
byte_in_front b [] = refl
byte_in_front b (x ∷ []) = refl
byte_in_front b (x ∷ y ∷ xs) = refl

parts_at_comma : (m depth b : ℕ) → is_parting m depth b ≡ true → b ≡ 44
parts_at_comma m depth b is = grind arith

by_parting : (m depth b : ℕ) (text : List ℕ) (xs ys : List (List ℕ)) → join_with_byte 44 ([] ∷ xs) ≡ 44 ∷ join_with_byte 44 xs → join_with_byte 44 xs ≡ text →
    join_with_byte 44 ys ≡ text → (t : Bool) → is_parting m depth b ≡ t → join_with_byte 44 (cond t ([] ∷ xs) (with_byte b ys)) ≡ b ∷ text
by_parting m depth b text xs ys comma one other true is = comma ∙ ap (λ r. 44 ∷ r) one ∙ ap (λ c. c ∷ text) (sym (parts_at_comma m depth b is))
by_parting m depth b text xs ys comma one other false is = byte_in_front b ys ∙ ap (λ r. b ∷ r) other

pub joined_again : (opening close m depth : ℕ) (text : List ℕ) → join_with_byte 44 (parted opening close m depth text) ≡ text
joined_again opening close m depth [] = refl
joined_again opening close m depth (b ∷ text) =
    by_parting m depth b text (parted opening close (m - 1) 0 text) (parted opening close m (next_depth opening close depth b) text)
    (behind_comma opening close (m - 1) 0 text) (joined_again opening close (m - 1) 0 text)
    (joined_again opening close m (next_depth opening close depth b) text) (is_parting m depth b) refl
