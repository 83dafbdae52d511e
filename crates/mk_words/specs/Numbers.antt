-- Numbers of words, as they are spelled (GNU make manual, "Functions for String Substitution and Analysis").
use Rattle.std.specs.Prelude.{ℕ, zero, suc, if◌then◌else◌, List, [], ◌∷◌, Option, Some, None, Result, Ok, Err, get_or}
use Rattle.std.specs.List.{list_all}
use Rattle.std.specs.Char.{is_ascii_digit}
use Rattle.std.specs.Str.Parse.{digits_value}
use Rattle.mk_words.specs.declared.numbers.NumberFault.{NumberFault}
use Rattle.mk_words.specs.declared.numbers.NumberFault.TheVariants.{First, Second, Zero}
use Rattle.mk_words.specs.Words.{words_of, behind_spaces, before_spaces}
use Rattle.mk_words.specs.Counted.{stretch}

-- what digits spell; none spell 0
abbrev pub number_by : (digits : List ℕ) → Option ℕ
number_by digits = if list_all is_ascii_digit digits then Some (digits_value 10 digits) else None

-- the number that a text spells, which isn't empty: digits with spaces around them. Spaces alone spell 0, as GNU make 4.3
-- reads them
abbrev pub number_of : (text : List ℕ) → Option ℕ
number_of [] = None
number_of (b ∷ bs) = number_by (before_spaces (behind_spaces (b ∷ bs)))

-- the word of this number, or nothing where there are fewer
abbrev pub word_by : (number : Option ℕ) → List (List ℕ) → Result (List ℕ) NumberFault
word_by None ws = Err First
word_by (Some zero) ws = Err Zero
word_by (Some (suc before)) ws = Ok (get_or ws before [])

abbrev pub word_of : (number text : List ℕ) → Result (List ℕ) NumberFault
word_of number text = word_by (number_of number) (words_of text)

-- the words from one number to another, with what stands between them
abbrev pub word_list_by : (first last : Option ℕ) (text : List ℕ) → Result (List ℕ) NumberFault
word_list_by None last text = Err First
word_list_by (Some first) None text = Err Second
word_list_by (Some zero) (Some last) text = Err Zero
word_list_by (Some (suc before)) (Some last) text = Ok (stretch before last text)

abbrev pub word_list_of : (first last text : List ℕ) → Result (List ℕ) NumberFault
word_list_of first last text = word_list_by (number_of first) (number_of last) text
