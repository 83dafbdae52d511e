-- A number is read digit by digit, and one that is larger than any text is long counts as the largest.
use Rattle.std.proofs.Common.{◌≡◌, ℕ, zero, suc, ◌+◌, ◌*◌, ◌-◌, ◌^◌, ◌<◌, ◌≤◌, Bool, true, false, List, [], length, take, get_or, refl, ◌∙◌, sym, ap, arith, Some, None, Option, Ok, Err, ◌⊎◌, inl, inr}
use Rattle.std.specs.Prelude.{min, option_map}
use Rattle.std.specs.List.{list_all}
use Rattle.std.specs.Char.{is_ascii_digit, digit_value}
use Rattle.std.specs.Str.Parse.{digits_value}
use Rattle.std.proofs.lemmas.List.Folds.{list_all_at}
use Rattle.std.proofs.lemmas.Bool.{cases_lt}
use Rattle.std.proofs.lemmas.Bool.Decides.{nat_tests}
use Rattle.std.proofs.lemmas.Int.Digits.{digits_value_more}
use Rattle.mk_words.specs.declared.numbers.NumberFault.TheVariants.{Zero}
use Rattle.mk_words.specs.Words.{words_of, behind_spaces, before_spaces, behind_words}
use Rattle.mk_words.specs.Counted.{first_word, numbered_word, stretch, word_stretch}
use Rattle.mk_words.specs.Numbers.{word_by, word_list_by}
use Rattle.mk_words.proofs.WordLemmas.{behind_words-all, word-behind}

-- a number that counts up to a bound, with one more digit
number_with : (value digit number product next : ℕ) → number ≡ min value (2 ^ 64 - 1) → product ≡ min (number * 10) (2 ^ 64 - 1)
    → next ≡ min (product + digit) (2 ^ 64 - 1) → next ≡ min (value * 10 + digit) (2 ^ 64 - 1)
number_with value digit number product next is times by = omega arith

-- each byte of digits is one
is_digit_at : (text : List ℕ) (i : ℕ) (is : Bool) → i < length text → list_all is_ascii_digit text ≡ true → is_ascii_digit (get_or text i 0) ≡ is
    → is ≡ true
is_digit_at text i true within all e = refl
is_digit_at text i false within all e = let no : true ≡ false = sym all ∙ list_all_at is_ascii_digit text i 0 within e in cc

-- the value of a digit
value_of : (byte : ℕ) → is_ascii_digit byte ≡ true → digit_value byte ≡ byte - 48
value_of byte is = grind (arith, nat_tests)

pub number_more : (text : List ℕ) (i number product next : ℕ) → i < length text → list_all is_ascii_digit text ≡ true
    → number ≡ min (digits_value 10 (take i text)) (2 ^ 64 - 1) → product ≡ min (number * 10) (2 ^ 64 - 1)
    → next ≡ min (product + (get_or text i 0 - 48)) (2 ^ 64 - 1) → next ≡ min (digits_value 10 (take (i + 1) text)) (2 ^ 64 - 1)
number_more text i number product next within all is times by =
    let byte : ℕ = get_or text i 0 in
    let digit : digit_value byte ≡ byte - 48 = value_of byte (is_digit_at text i (is_ascii_digit byte) within all refl) in
    number_with (digits_value 10 (take i text)) (byte - 48) number product next is times by
    ∙ ap (λ n. min n (2 ^ 64 - 1)) (ap (λ d. digits_value 10 (take i text) * 10 + d) (sym digit) ∙ sym (digits_value_more 10 text i within))

-- so many words or more than there are bytes are the same
behind_words-same : (n m : ℕ) (text : List ℕ) → (n ≡ m) ⊎ ((length text ≤ n) × (length text ≤ m)) → behind_words n text ≡ behind_words m text
behind_words-same n m text (inl e) = ap (λ k. behind_words k text) e
behind_words-same n m text (inr past) = behind_words-all n text past.0 ∙ sym (behind_words-all m text past.1)

behind_words-min : (n m : ℕ) (text : List ℕ) → length text < 2 ^ 64 - 1 → suc n ≡ min (suc m) (2 ^ 64 - 1) → behind_words n text ≡ behind_words m text
behind_words-min n m text within e = at (cases_lt m (2 ^ 64 - 1))
  where
    at : (m < 2 ^ 64 - 1) ⊎ (2 ^ 64 - 1 ≤ m) → behind_words n text ≡ behind_words m text
    at (inl small) = behind_words-same n m text (inl (omega (arith, e, small)))
    at (inr large) = behind_words-same n m text (inr (omega (arith, e, large, within)))

behind_words-most : (n m : ℕ) (text : List ℕ) → length text < 2 ^ 64 - 1 → n ≡ min m (2 ^ 64 - 1) → behind_words n text ≡ behind_words m text
behind_words-most n m text within e = at (cases_lt m (2 ^ 64 - 1))
  where
    at : (m < 2 ^ 64 - 1) ⊎ (2 ^ 64 - 1 ≤ m) → behind_words n text ≡ behind_words m text
    at (inl small) = behind_words-same n m text (inl (omega (arith, e, small)))
    at (inr large) = behind_words-same n m text (inr (omega (arith, e, large, within)))

pub word-zero : (spelled : Option ℕ) (n : ℕ) (ws : List (List ℕ)) → option_map (λ m. min m (2 ^ 64 - 1)) spelled ≡ Some n → numbered_word n ws ≡ None → word_by spelled ws ≡ Err Zero
word-zero None n ws e is = cc e
word-zero (Some zero) n ws e is = refl
word-zero (Some (suc k)) zero ws e is = let no : min (suc k) (2 ^ 64 - 1) ≡ 0 = cc e in absurd (omega (arith, no))
word-zero (Some (suc k)) (suc j) ws e is = cc is

pub word-found : (spelled : Option ℕ) (n : ℕ) (text found : List ℕ) → length text < 2 ^ 64 - 1 → option_map (λ m. min m (2 ^ 64 - 1)) spelled ≡ Some n
    → numbered_word n (words_of text) ≡ Some found → word_by spelled (words_of text) ≡ Ok found
word-found None n text found within e is = cc e
word-found (Some m) zero text found within e is = cc is
word-found (Some zero) (suc j) text found within e is = let no : 0 ≡ suc j = cc e in absurd (omega (arith, no))
word-found (Some (suc k)) (suc j) text found within e is =
    let same : suc j ≡ min (suc k) (2 ^ 64 - 1) = cc e in
    let word : get_or (words_of text) j [] ≡ found = cc is in
    ap Ok (sym (word-behind k text) ∙ ap (λ t. first_word (words_of t)) (sym (behind_words-min j k text within same)) ∙ word-behind j text ∙ word)

pub list-zero : (first last : Option ℕ) (n m : ℕ) (text : List ℕ) → option_map (λ k. min k (2 ^ 64 - 1)) first ≡ Some n → option_map (λ k. min k (2 ^ 64 - 1)) last ≡ Some m
    → word_stretch n m text ≡ None → word_list_by first last text ≡ Err Zero
list-zero None last n m text e d is = cc e
list-zero (Some k) None n m text e d is = cc d
list-zero (Some zero) (Some l) n m text e d is = refl
list-zero (Some (suc k)) (Some l) zero m text e d is = let no : min (suc k) (2 ^ 64 - 1) ≡ 0 = cc e in absurd (omega (arith, no))
list-zero (Some (suc k)) (Some l) (suc j) m text e d is = cc is

pub list-found : (first last : Option ℕ) (n m : ℕ) (text found : List ℕ) → length text < 2 ^ 64 - 1 → option_map (λ k. min k (2 ^ 64 - 1)) first ≡ Some n
    → option_map (λ k. min k (2 ^ 64 - 1)) last ≡ Some m → word_stretch n m text ≡ Some found → word_list_by first last text ≡ Ok found
list-found None last n m text found within e d is = cc e
list-found (Some k) None n m text found within e d is = cc d
list-found (Some k) (Some l) zero m text found within e d is = cc is
list-found (Some zero) (Some l) (suc j) m text found within e d is = let no : 0 ≡ suc j = cc e in absurd (omega (arith, no))
list-found (Some (suc k)) (Some l) (suc j) m text found within e d is =
    let from : suc j ≡ min (suc k) (2 ^ 64 - 1) = cc e in
    let to : m ≡ min l (2 ^ 64 - 1) = cc d in
    let words : stretch j m text ≡ found = cc is in
    ap Ok (ap (λ front. before_spaces (behind_spaces (take (length front - length (behind_words l text)) front))) (sym (behind_words-min j k text within from))
    ∙ ap (λ rest. before_spaces (behind_spaces (take (length (behind_words j text) - length rest) (behind_words j text)))) (sym (behind_words-most m l text within to))
    ∙ words)
