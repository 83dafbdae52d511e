-- References to macros, and which bytes of a text stand outside them (make(1S), "Macro References"): told by pieces, and byte by byte.
use Rattle.std.specs.Prelude.{◌≡◌, ℕ, Bool, true, false, ◌&&◌, ◌||◌, ◌==◌, List, [], ◌∷◌, ◌++◌, flat_map, Option, Some, None, ◌+◌, option_map, if◌then◌else◌}
use Rattle.std.specs.List.{list_any}
use Rattle.mk_lines.specs.declared.reference.Place.{Place}
use Rattle.mk_lines.specs.declared.reference.Place.TheVariants.{Outside, Dollar, Within}

-- a piece of a line: a byte that stands for itself, or a reference to a macro, which is `$` and a byte, or reaches from
-- `$(` to the first `)`, or from `${` to the first `}`
pub data Piece : Type 0 where
  plain : ℕ → Piece
  short : ℕ → Piece
  round : (inside : List ℕ) → Piece
  curly : (inside : List ℕ) → Piece

abbrev pub piece_text : Piece → List ℕ
piece_text (plain b) = b ∷ []
piece_text (short b) = 36 ∷ b ∷ []
piece_text (round inside) = 36 ∷ 40 ∷ (inside ++ 41 ∷ [])
piece_text (curly inside) = 36 ∷ 123 ∷ (inside ++ 125 ∷ [])

abbrev pub Lacks : (byte : ℕ) (text : List ℕ) → Type 0
Lacks byte text = list_any (λ b. b == byte) text ≡ false

-- the piece is spelled right, and is neither of these two bytes
abbrev pub IsPiece : (one other : ℕ) → Piece → Type 0
IsPiece one other (plain b) = ((b == 36) ≡ false) × ((b == one || b == other) ≡ false)
IsPiece one other (short b) = ((b == 40) ≡ false) × ((b == 123) ≡ false)
IsPiece one other (round inside) = Lacks 41 inside
IsPiece one other (curly inside) = Lacks 125 inside

abbrev pub ArePieces : (one other : ℕ) → List Piece → Type 0
ArePieces one other [] = Unit {0}
ArePieces one other (piece ∷ pieces) = IsPiece one other piece × ArePieces one other pieces

-- the text is made of whole pieces, and neither byte stands outside its references
abbrev pub Whole : (one other : ℕ) (text : List ℕ) → Type 0
Whole one other text = (pieces : List Piece) × (text ≡ flat_map piece_text pieces) × ArePieces one other pieces

-- the end of a line: nothing, or a reference that isn't closed
pub data Tail : Type 0 where
  nothing : Tail
  lone : Tail
  open_round : (inside : List ℕ) → Tail
  open_curly : (inside : List ℕ) → Tail

abbrev pub tail_text : Tail → List ℕ
tail_text nothing = []
tail_text lone = 36 ∷ []
tail_text (open_round inside) = 36 ∷ 40 ∷ inside
tail_text (open_curly inside) = 36 ∷ 123 ∷ inside

abbrev pub IsTail : Tail → Type 0
IsTail nothing = Unit {0}
IsTail lone = Unit {0}
IsTail (open_round inside) = Lacks 41 inside
IsTail (open_curly inside) = Lacks 125 inside

-- neither byte stands outside the references of the text, the last of which may be unfinished
abbrev pub Without : (one other : ℕ) (text : List ℕ) → Type 0
Without one other text =
    (pieces : List Piece) × (tail : Tail) × (text ≡ flat_map piece_text pieces ++ tail_text tail) × ArePieces one other pieces × IsTail tail

-- the text is cut at its first `=` or `:` outside references, which is this sign
abbrev pub IsCutAsSeen : (sign : ℕ) (text before behind : List ℕ) → Type 0
IsCutAsSeen sign text before behind = (text ≡ before ++ sign ∷ behind) × Whole 61 58 before

-- Byte by byte

-- where the byte after this one stands: `$` begins a reference, which is one character, or reaches from a bracket
-- to the first bracket that closes it
unfoldable pub next_place : Place → ℕ → Place
next_place Outside b = if b == 36 then Dollar else Outside
next_place Dollar b = if b == 40 then Within 41 else (if b == 123 then Within 125 else Outside)
next_place (Within close) b = if b == close then Outside else Within close

abbrev pub is_outside : Place → Bool
is_outside Outside = true
is_outside Dollar = false
is_outside (Within _) = false

-- the first place of one of two bytes that stands outside references
abbrev pub first_outside : ℕ → ℕ → Place → List ℕ → Option ℕ
first_outside one other place [] = None
first_outside one other place (b ∷ bs) =
    if is_outside place && (b == one || b == other) then Some 0 else option_map (λ i. i + 1) (first_outside one other (next_place place b) bs)
