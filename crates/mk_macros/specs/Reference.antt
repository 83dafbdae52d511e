-- The forms that stand at the front of a text.
use Rattle.std.specs.Prelude.{ℕ, ◌+◌, ◌-◌, Bool, true, false, not, ◌&&◌, ◌==◌, if◌then◌else◌, List, [], ◌∷◌, take, drop, Option, Some, None, option_map, is_some}
use Rattle.bstr.specs.Utf8.{decoded}
use Rattle.mk_macros.specs.Words.{place_of, WordChange, by_pattern, pattern_of, changed_words}

-- what a reference takes of its macro's value: all of it, or its words, changed
pub data Use : Type 0 where
  whole : Use
  words_changed : (change : WordChange) → Use

-- what such a reference adds, of this value
abbrev pub used : Use → List ℕ → List ℕ
used whole value = value
used (words_changed change) value = changed_words change value

-- one form of a text: bytes that stand for themselves, a reference, a bracket that isn't closed, brackets that hold a `$`
pub data Piece : Type 0 where
  plain : (bytes : List ℕ) → Piece
  reference : (name : List ℕ) (use_of : Use) → Piece
  unclosed : Piece
  nested : (inner : List ℕ) → Piece

-- the first piece of a text, and what stands behind it
pub data Front : Type 0 where
  nothing : Front
  first : (piece : Piece) (rest : List ℕ) → Front

-- NAME:old=new, where the colon stands at this place of the text in brackets
abbrev pub after_colon : (inner : List ℕ) (colon : ℕ) (change : List ℕ) → Option ℕ → Piece
after_colon inner colon change None = reference inner whole
after_colon inner colon change (Some equals) =
    reference (take colon inner) (words_changed (by_pattern (pattern_of (take equals change) (drop (equals + 1) change))))

-- NAME alone, or cut at the colon at this place of the text in brackets
abbrev pub at_colon : List ℕ → Option ℕ → Piece
at_colon inner None = reference inner whole
at_colon inner (Some colon) = after_colon inner colon (drop (colon + 1) inner) (place_of 61 (drop (colon + 1) inner))

-- NAME, or NAME:old=new, cut at the first `:` and the first `=` behind it
abbrev pub named : List ℕ → Piece
named inner = at_colon inner (place_of 58 inner)

-- what stands in brackets
abbrev pub in_brackets : List ℕ → Piece
in_brackets inner = if is_some (place_of 36 inner) then nested inner else named inner

-- within how many references in the same brackets the byte behind this one stands
abbrev pub next_depth : (opening close depth : ℕ) (is_behind_dollar : Bool) (b : ℕ) → ℕ
next_depth opening close depth true b = if b == opening then depth + 1 else depth
next_depth opening close depth false b = if b == close then depth - 1 else depth

-- the first closing byte outside the references in the same brackets, read from within so many of them. A `$` takes
-- the byte behind it along
abbrev pub closing_from : (opening close depth : ℕ) (is_behind_dollar : Bool) → List ℕ → Option ℕ
closing_from opening close depth is_behind_dollar [] = None
closing_from opening close depth is_behind_dollar (b ∷ text) =
    if not is_behind_dollar && (b == close && depth == 0) then Some 0
    else option_map (λ n. n + 1) (closing_from opening close (next_depth opening close depth is_behind_dollar b) (not is_behind_dollar && b == 36) text)

-- where brackets are closed: at the first closing byte; in the wide profile, where they may hold references, at the
-- first one outside those (that references in other brackets aren't counted is our own)
abbrev pub closing : (wide : Bool) (opening close : ℕ) → List ℕ → Option ℕ
closing false opening close text = place_of close text
closing true opening close text = closing_from opening close 0 false text

-- a bracket is closed at this place, or not at all
abbrev pub closed_at : List ℕ → Option ℕ → Front
closed_at text None = first unclosed []
closed_at text (Some end) = first (in_brackets (take end text)) (drop (end + 1) text)

-- how many bytes the first character takes; what is no UTF-8 is taken byte by byte
abbrev pub character_len : List ℕ → ℕ
character_len text = if is_some (decoded text).char then (decoded text).size else 1

-- what stands behind a dollar. A dollar that ends the text stands for itself
-- (make(1S), "Macros": `$(name)`, `${name}`, `$c`, `$$`)
abbrev pub behind_dollar : (wide : Bool) → List ℕ → Front
behind_dollar wide [] = first (plain (36 ∷ [])) []
behind_dollar wide (c ∷ text) =
    if c == 36 then first (plain (36 ∷ [])) text
    else (if c == 40 then closed_at text (closing wide 40 41 text)
    else (if c == 123 then closed_at text (closing wide 123 125 text)
    else first (reference (take (character_len (c ∷ text)) (c ∷ text)) whole) (drop (character_len (c ∷ text)) (c ∷ text))))

-- bytes that stand for themselves, up to the dollar at this place
abbrev pub plain_until : List ℕ → Option ℕ → Front
plain_until text None = first (plain text) []
plain_until text (Some end) = first (plain (take end text)) (drop end text)

-- the front of a text: the bytes up to the next dollar, or the form that begins with it
abbrev pub front : (wide : Bool) → List ℕ → Front
front wide [] = nothing
front wide (b ∷ text) = if b == 36 then behind_dollar wide text else plain_until (b ∷ text) (place_of 36 (b ∷ text))
