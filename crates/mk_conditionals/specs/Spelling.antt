-- How a line spells what it says of conditionals, as a relation (GNU make manual, "Syntax of Conditionals"; GNU make 4.3).
use Rattle.std.specs.Prelude.{◌≡◌, ◌⊎◌, ℕ, Bool, true, false, List, ◌∷◌, Option, Some, None, codes}
use Rattle.byte_strings.specs.Blanks.{is_nonempty, trimmed_start, trimmed_end}
use Rattle.mk_conditionals.specs.Cut.{front_word, behind_word}
use Rattle.mk_conditionals.specs.Cuts.{IsCut}
use Rattle.mk_conditionals.specs.Spelled.{Asked, equal, defined, invalid, Condition, Said, is_quote, is_sign_next}
use Rattle.mk_conditionals.specs.declared.directive.Directive.TheVariants.{Begins, Turns, Ends}

-- the words that begin a test
pub data Keyword : Type 0 where
  ifeq : Keyword
  ifneq : Keyword
  ifdef : Keyword
  ifndef : Keyword

abbrev pub keyword_text : Keyword → List ℕ
keyword_text ifeq = codes "ifeq"
keyword_text ifneq = codes "ifneq"
keyword_text ifdef = codes "ifdef"
keyword_text ifndef = codes "ifndef"

-- `(first, second)`, cut at the first comma outside inner parentheses; what stands behind it goes up to the parenthesis that closes
abbrev pub InParentheses : (rest first second behind : List ℕ) → Type 0
InParentheses rest first second behind =
    (inner front more : List ℕ) × (rest ≡ 40 ∷ inner) × IsCut true 44 inner front more × (first ≡ trimmed_end front)
    × IsCut true 41 (trimmed_start more) second behind

-- a text in quotes of one kind
abbrev pub InQuotes : (rest text behind : List ℕ) → Type 0
InQuotes rest text behind =
    (quote : ℕ) × (inner : List ℕ) × (rest ≡ quote ∷ inner) × (is_quote quote ≡ true) × IsCut false quote inner text behind

-- two texts as they stand behind `ifeq`, and what is left behind them
abbrev pub SpellsArguments : (rest first second behind : List ℕ) → Type 0
SpellsArguments rest first second behind =
    InParentheses rest first second behind
    ⊎ ((more : List ℕ) × InQuotes rest first more × InQuotes (trimmed_start more) second behind)

-- whether there is text that is passed over behind two texts that are compared
abbrev pub Compares : (rest : List ℕ) → Asked → (text_behind : Bool) → Type 0
Compares rest (equal first second) text_behind =
    (behind : List ℕ) × SpellsArguments rest first second behind × (text_behind ≡ is_nonempty (trimmed_start behind))
Compares rest invalid text_behind =
    ((first second behind : List ℕ) → SpellsArguments rest first second behind → ⊥) × (text_behind ≡ false)
Compares rest (defined name) text_behind = ⊥

-- the test of a keyword, with this behind it
abbrev pub SpellsTest : Keyword → (rest : List ℕ) → Condition → (text_behind : Bool) → Type 0
SpellsTest ifeq rest test text_behind = (test.is_negated ≡ false) × Compares rest test.asked text_behind
SpellsTest ifneq rest test text_behind = (test.is_negated ≡ true) × Compares rest test.asked text_behind
SpellsTest ifdef rest test text_behind = (test.is_negated ≡ false) × (test.asked ≡ defined rest) × (text_behind ≡ false)
SpellsTest ifndef rest test text_behind = (test.is_negated ≡ true) × (test.asked ≡ defined rest) × (text_behind ≡ false)

-- the line begins with this word, which isn't the name of a definition
abbrev pub BeginsWith : (text word : List ℕ) → Type 0
BeginsWith text word = (front_word text ≡ word) × (is_sign_next (behind_word text) ≡ false)

-- what the line says, if it says anything
abbrev pub Spells : (text : List ℕ) → Option Said → Type 0
Spells text (Some (Begins test, text_behind)) =
    (word : Keyword) × BeginsWith text (keyword_text word) × SpellsTest word (behind_word text) test text_behind
Spells text (Some (Turns (Some test), text_behind)) =
    (word : Keyword) × BeginsWith text (codes "else") × (front_word (behind_word text) ≡ keyword_text word)
    × SpellsTest word (behind_word (behind_word text)) test text_behind
Spells text (Some (Turns None, text_behind)) =
    BeginsWith text (codes "else") × ((word : Keyword) → front_word (behind_word text) ≡ keyword_text word → ⊥)
    × (text_behind ≡ is_nonempty (behind_word text))
Spells text (Some (Ends, text_behind)) = BeginsWith text (codes "endif") × (text_behind ≡ is_nonempty (behind_word text))
Spells text None =
    ((word : Keyword) → BeginsWith text (keyword_text word) → ⊥)
    × (BeginsWith text (codes "else") → ⊥) × (BeginsWith text (codes "endif") → ⊥)
