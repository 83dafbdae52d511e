-- How a text is spelled of the forms at its front (make(1S), "Macros"; the refusals are own): which front is spelled
-- how, told without where anything is looked for.
use Rattle.std.specs.Prelude.{◌≡◌, ℕ, ◌⊎◌, Bool, true, false, ◌==◌, List, [], ◌∷◌, ◌++◌, length}
use Rattle.std.specs.List.{list_any}
use Rattle.byte_strings.specs.Blanks.{is_nonempty}
use Rattle.mk_macros.specs.Words.{by_pattern, pattern_of}
use Rattle.mk_macros.specs.Reference.{Use, whole, words_changed, Piece, plain, reference, unclosed, nested, Front, nothing, first, character_len}

abbrev pub Lacks : (byte : ℕ) (text : List ℕ) → Type 0
Lacks byte text = list_any (λ b. b == byte) text ≡ false

-- nothing, or a `$` stands first
abbrev pub IsBeforeDollar : List ℕ → Type 0
IsBeforeDollar rest = (rest ≡ []) ⊎ ((more : List ℕ) × (rest ≡ 36 ∷ more))

-- bytes that stand for themselves: `$$` gives one dollar, so does a dollar at the end, and what holds no dollar
-- stands for itself, up to the next one
abbrev pub SpellsPlain : (text bytes rest : List ℕ) → Type 0
SpellsPlain text bytes rest =
    ((bytes ≡ 36 ∷ []) × ((text ≡ 36 ∷ 36 ∷ rest) ⊎ ((text ≡ 36 ∷ []) × (rest ≡ []))))
    ⊎ ((text ≡ bytes ++ rest) × (is_nonempty bytes ≡ true) × Lacks 36 bytes × IsBeforeDollar rest)

-- what brackets hold in the wide profile: references in the same brackets are whole, and no other byte closes. A `$`
-- takes the byte behind it along
pub data HoldsWhole (opening close : ℕ) : List ℕ → Type 0 where
  holds_nothing : HoldsWhole opening close []
  holds_byte : {rest : List ℕ} (b : ℕ) → (b == close) ≡ false → (b == 36) ≡ false → HoldsWhole opening close rest →
      HoldsWhole opening close (b ∷ rest)
  holds_dollar : {rest : List ℕ} (b : ℕ) → (b == opening) ≡ false → HoldsWhole opening close rest →
      HoldsWhole opening close (36 ∷ b ∷ rest)
  holds_reference : {text : List ℕ} (inner rest : List ℕ) → text ≡ 36 ∷ opening ∷ (inner ++ close ∷ rest) →
      HoldsWhole opening close inner → HoldsWhole opening close rest → HoldsWhole opening close text

-- what closed brackets hold
abbrev pub Fits : (wide : Bool) (opening close : ℕ) (inner : List ℕ) → Type 0
Fits false opening close inner = Lacks close inner
Fits true opening close inner = HoldsWhole opening close inner

-- nothing closes the brackets
abbrev pub IsNotClosed : (wide : Bool) (opening close : ℕ) (behind : List ℕ) → Type 0
IsNotClosed false opening close behind = Lacks close behind
IsNotClosed true opening close behind =
    (inner rest : List ℕ) → HoldsWhole opening close inner → behind ≡ inner ++ close ∷ rest → ⊥

-- brackets: from `$(` to the first `)`, or from `${` to the first `}`; in the wide profile to the first that stands
-- outside references
abbrev pub SpellsBrackets : (wide : Bool) (text inner rest : List ℕ) → Type 0
SpellsBrackets wide text inner rest =
    ((text ≡ 36 ∷ 40 ∷ (inner ++ 41 ∷ rest)) × Fits wide 40 41 inner)
    ⊎ ((text ≡ 36 ∷ 123 ∷ (inner ++ 125 ∷ rest)) × Fits wide 123 125 inner)

-- brackets that aren't closed
abbrev pub SpellsOpen : (wide : Bool) (text : List ℕ) → Type 0
SpellsOpen wide text =
    ((behind : List ℕ) × (text ≡ 36 ∷ 40 ∷ behind) × IsNotClosed wide 40 41 behind)
    ⊎ ((behind : List ℕ) × (text ≡ 36 ∷ 123 ∷ behind) × IsNotClosed wide 123 125 behind)

-- `$` and one character, which is no `$` and opens no bracket
abbrev pub SpellsShort : (text name rest : List ℕ) → Type 0
SpellsShort text name rest =
    (b : ℕ) × (bs : List ℕ) × (text ≡ 36 ∷ b ∷ bs) × ((b == 36) ≡ false) × ((b == 40) ≡ false) × ((b == 123) ≡ false)
    × (b ∷ bs ≡ name ++ rest) × (length name ≡ character_len (b ∷ bs))

-- what stands in brackets: NAME, or NAME:old=new, where NAME ends at the first `:` and old at the first `=` behind it.
-- A `:` with no `=` behind it is a part of the name.
abbrev pub SpellsUse : (inner name : List ℕ) → Use → Type 0
SpellsUse inner name whole =
    (name ≡ inner) × (Lacks 58 inner ⊎ ((before : List ℕ) × (after : List ℕ) × (inner ≡ before ++ 58 ∷ after) × Lacks 58 before × Lacks 61 after))
SpellsUse inner name (words_changed change) =
    (old : List ℕ) × (new : List ℕ) × (inner ≡ name ++ 58 ∷ (old ++ 61 ∷ new)) × Lacks 58 name × Lacks 61 old × (change ≡ by_pattern (pattern_of old new))

abbrev pub SpellsReference : (wide : Bool) (text name : List ℕ) → Use → (rest : List ℕ) → Type 0
SpellsReference wide text name use_of rest =
    ((inner : List ℕ) × SpellsBrackets wide text inner rest × Lacks 36 inner × SpellsUse inner name use_of)
    ⊎ ((use_of ≡ whole) × SpellsShort text name rest)

-- the text is this piece, and this behind it
abbrev pub SpellsPiece : (wide : Bool) (text : List ℕ) → Piece → (rest : List ℕ) → Type 0
SpellsPiece wide text (plain bytes) rest = SpellsPlain text bytes rest
SpellsPiece wide text (reference name use_of) rest = SpellsReference wide text name use_of rest
SpellsPiece wide text unclosed rest = SpellsOpen wide text × (rest ≡ [])
SpellsPiece wide text (nested inner) rest = SpellsBrackets wide text inner rest × (list_any (λ b. b == 36) inner ≡ true)

abbrev pub SpellsFront : (wide : Bool) (text : List ℕ) → Front → Type 0
SpellsFront wide text nothing = text ≡ []
SpellsFront wide text (first piece rest) = SpellsPiece wide text piece rest
