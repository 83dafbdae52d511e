-- What functions come to whose arguments are known (GNU make manual, "Functions for Transforming Text" and what follows it).
use Rattle.std.specs.Prelude.{ℕ, not, List, [], ◌∷◌, ◌++◌, length, map, filter, Option, Some, None, Result, Ok, Err, codes, decimal}
use Rattle.byte_strings.specs.Blanks.{is_nonempty}
use Rattle.mk_words.specs.Words.{words_of, spaced}
use Rattle.mk_words.specs.Counted.{first_word, last_word}
use Rattle.mk_words.specs.Numbers.{word_of, word_list_of}
use Rattle.mk_words.specs.Texts.{substituted, found_in}
use Rattle.mk_words.specs.Names.{notdir_of, dir_of, suffix_of, basename_of, paired}
use Rattle.mk_words.specs.Patterns.{pattern_of, fits_any}
use Rattle.mk_words.specs.Changed.{patsubst_of}
use Rattle.mk_words.specs.declared.numbers.NumberFault.{NumberFault}
use Rattle.std.specs.Ordering.{nat_cmp}
use Rattle.std.specs.Cmp.Lexicographic.{slice_cmp}
use Rattle.std.specs.declared.cmp.Ordering.TheVariants.{Less, Equal, Greater}
use Rattle.std.specs.declared.cmp.Ordering.{Ordering}
use Rattle.mk_pieces.specs.declared.function.Function.{Function}
use Rattle.mk_pieces.specs.declared.function.Function.TheVariants.{OfWords, OfVariable, Asks, Says, Error, OfTwo, OfThree, If, Or, And, Foreach, Call}
use Rattle.mk_pieces.specs.declared.function.Function.TheVariants as function
use Rattle.mk_pieces.specs.declared.function.OfWords as code_words
use Rattle.mk_pieces.specs.declared.function.OfWords.TheVariants.{Strip, Sort, Words, FirstWord, LastWord, Dir, NotDir, Suffix, BaseName}
use Rattle.mk_pieces.specs.declared.function.OfVariable as code_variable
use Rattle.mk_pieces.specs.declared.function.OfVariable.TheVariants.{Origin, Flavor, Value}
use Rattle.mk_pieces.specs.declared.function.OfTwo as code_two
use Rattle.mk_pieces.specs.declared.function.OfTwo.TheVariants.{FindString, Filter, FilterOut, Word, AddSuffix, AddPrefix, Join}
use Rattle.mk_pieces.specs.declared.function.OfThree as code_three
use Rattle.mk_pieces.specs.declared.function.OfThree.TheVariants.{Subst, PatSubst, WordList}
use Rattle.mk_pieces.specs.declared.function.Question.{Question}
use Rattle.mk_functions.specs.Variables.{Variable, Variables, flavor_text, origin_text}
use Rattle.mk_functions.specs.Outcome.{Outcome, gives, fails, given, miscounts, told, too_few, refuses, not_called}

-- what the world outside answers to each question
abbrev pub Answers : Type 0
Answers = Question → (text : List ℕ) → List ℕ

-- a word put in front of the first one behind it in the order of bytes; one that is there already isn't put in again
abbrev pub placed_by : Ordering → (word w : List ℕ) (ws placed : List (List ℕ)) → List (List ℕ)
placed_by Less word w ws placed = word ∷ w ∷ ws
placed_by Equal word w ws placed = w ∷ ws
placed_by Greater word w ws placed = w ∷ placed

abbrev pub placed : (word : List ℕ) → List (List ℕ) → List (List ℕ)
placed word [] = word ∷ []
placed word (w ∷ ws) = placed_by (slice_cmp nat_cmp word w) word w ws (placed word ws)

-- the words in the order of their bytes, each once
abbrev pub sorted_words : List (List ℕ) → List (List ℕ)
sorted_words [] = []
sorted_words (w ∷ ws) = placed w (sorted_words ws)

abbrev pub of_words : code_words.OfWords → (text : List ℕ) → List ℕ
of_words Strip text = spaced (words_of text)
of_words Sort text = spaced (sorted_words (words_of text))
of_words Words text = decimal (length (words_of text))
of_words FirstWord text = first_word (words_of text)
of_words LastWord text = last_word (words_of text)
of_words Dir text = spaced (map dir_of (words_of text))
of_words NotDir text = spaced (map notdir_of (words_of text))
of_words Suffix text = spaced (filter is_nonempty (map suffix_of (words_of text)))
of_words BaseName text = spaced (map basename_of (words_of text))

-- `value` gives a variable's text as it is written
abbrev pub of_variable : code_variable.OfVariable → Option Variable → List ℕ
of_variable Origin None = codes "undefined"
of_variable Origin (Some variable) = origin_text variable.origin
of_variable Flavor None = codes "undefined"
of_variable Flavor (Some variable) = flavor_text variable.flavor
of_variable Value None = []
of_variable Value (Some variable) = variable.text

-- a value where numbers were asked for, unless one is wrong
abbrev pub counted : Function → Result (List ℕ) NumberFault → Outcome
counted f (Ok text) = given text
counted f (Err fault) = fails (miscounts f fault)

abbrev pub of_two : code_two.OfTwo → (first text : List ℕ) → Outcome
of_two FindString find text = given (found_in find text)
of_two Filter patterns text = given (spaced (filter (fits_any (map pattern_of (words_of patterns))) (words_of text)))
of_two FilterOut patterns text = given (spaced (filter (λ word. not (fits_any (map pattern_of (words_of patterns)) word)) (words_of text)))
of_two Word number text = counted (OfTwo Word) (word_of number text)
of_two AddSuffix suffix names = given (spaced (map (λ name. name ++ suffix) (words_of names)))
of_two AddPrefix prefix names = given (spaced (map (λ name. prefix ++ name) (words_of names)))
of_two Join one other = given (spaced (paired (words_of one) (words_of other)))

abbrev pub of_three : code_three.OfThree → (first second text : List ℕ) → Outcome
of_three Subst from to text = given (substituted from to text)
of_three PatSubst pattern replacement text = given (patsubst_of (pattern_of pattern) replacement text)
of_three WordList first last text = counted (OfThree WordList) (word_list_of first last text)

-- values, each behind a comma and a space
abbrev pub behind_commas : List (List ℕ) → List ℕ
behind_commas [] = []
behind_commas (text ∷ more) = 44 ∷ 32 ∷ (text ++ behind_commas more)

-- what a function comes to, by the values of its arguments; further values are passed over, but by a message, of which they are a part. By
-- `call` a function may have none, and then one that needs none has no bytes. Those that don't expand all of their arguments can't be
-- called so (own)
abbrev pub applied : Answers → Variables → Function → (values : List (List ℕ)) → Outcome
applied answers variables (OfWords f) [] = gives []
applied answers variables (OfWords f) (text ∷ more) = given (of_words f text)
applied answers variables (OfVariable f) [] = gives []
applied answers variables (OfVariable f) (name ∷ more) = given (of_variable f (variables name))
applied answers variables (Asks question) [] = gives []
applied answers variables (Asks question) (text ∷ more) = given (answers question text)
applied answers variables (Says message) values = gives []
applied answers variables Error [] = gives []
applied answers variables Error (text ∷ more) = fails (told (text ++ behind_commas more))
applied answers variables (OfTwo f) (one ∷ other ∷ more) = of_two f one other
applied answers variables (OfTwo f) _ = fails (too_few (OfTwo f))
applied answers variables (OfThree f) (one ∷ two ∷ three ∷ more) = of_three f one two three
applied answers variables (OfThree f) _ = fails (too_few (OfThree f))
applied answers variables (function.Refused f) values = fails (refuses f)
applied answers variables If values = fails (not_called If)
applied answers variables Or values = fails (not_called Or)
applied answers variables And values = fails (not_called And)
applied answers variables Foreach values = fails (not_called Foreach)
applied answers variables Call values = fails (not_called Call)
