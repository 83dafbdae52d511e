-- A number is read digit by digit.
use Rattle.std.proofs.Common.{◌≡◌, ℕ, ◌+◌, ◌*◌, ◌-◌, ◌<◌, Bool, true, false, List, length, take, get_or, refl, ◌∙◌, sym, ap, arith}
use Rattle.std.specs.Prelude.{min}
use Rattle.std.specs.List.{list_all}
use Rattle.std.specs.Char.{is_ascii_digit, digit_value}
use Rattle.std.specs.Str.Parse.{digits_value}
use Rattle.std.proofs.lemmas.List.Folds.{list_all_at}
use Rattle.std.proofs.lemmas.Bool.Decides.{nat_tests}
use Rattle.std.proofs.lemmas.Int.Digits.{digits_value_more}

-- a number that counts up to a bound, with one more digit
number_by : (value digit number product next : ℕ) → number ≡ min value 65535 → product ≡ min (number * 10) 65535
    → next ≡ min (product + digit) 65535 → next ≡ min (value * 10 + digit) 65535
number_by value digit number product next is times by = omega arith

-- each byte of digits is one
is_digit_at : (text : List ℕ) (i : ℕ) (is : Bool) → i < length text → list_all is_ascii_digit text ≡ true → is_ascii_digit (get_or text i 0) ≡ is
    → is ≡ true
is_digit_at text i true within all e = refl
is_digit_at text i false within all e = let no : true ≡ false = sym all ∙ list_all_at is_ascii_digit text i 0 within e in cc

-- the value of a digit
value_of : (byte : ℕ) → is_ascii_digit byte ≡ true → digit_value byte ≡ byte - 48
value_of byte is = grind (arith, nat_tests)

pub number_more : (text : List ℕ) (i number product next : ℕ) → i < length text → list_all is_ascii_digit text ≡ true
    → number ≡ min (digits_value 10 (take i text)) 65535 → product ≡ min (number * 10) 65535
    → next ≡ min (product + (get_or text i 0 - 48)) 65535 → next ≡ min (digits_value 10 (take (i + 1) text)) 65535
number_more text i number product next within all is times by =
    let byte : ℕ = get_or text i 0 in
    let digit : digit_value byte ≡ byte - 48 = value_of byte (is_digit_at text i (is_ascii_digit byte) within all refl) in
    number_by (digits_value 10 (take i text)) (byte - 48) number product next is times by
    ∙ ap (λ n. min n 65535) (ap (λ d. digits_value 10 (take i text) * 10 + d) (sym digit) ∙ sym (digits_value_more 10 text i within))
