-- What stands at the front of a text (GNU make manual, "Basics of Variable References", "Substitution References", "Computed Variable Names" and
-- "Function Call Syntax").
use Rattle.std.specs.Prelude.{ℕ, ◌+◌, ◌==◌, if◌then◌else◌, List, [], ◌∷◌, take, drop, position, Option, Some, None, is_some}
use Rattle.mk_words.specs.Words.{is_space, behind_spaces}
use Rattle.mk_pieces.specs.Brackets.{place_of, closing, arguments_of}
use Rattle.mk_pieces.specs.Function.{function_named, most}
use Rattle.mk_pieces.specs.declared.function.Function.{Function}

-- what a reference takes of its variable's value: all of it, or its words, changed
pub data Use : Type 0 where
  whole : Use
  substituted : (from to : List ℕ) → Use

pub data Piece : Type 0 where
  -- bytes that stand for themselves
  plain : (bytes : List ℕ) → Piece
  reference : (name : List ℕ) (use_of : Use) → Piece
  -- brackets that aren't closed
  unclosed : Piece
  -- a reference whose name is what this comes to
  computed : (inner : List ℕ) → Piece
  call : (function : Function) (arguments : List (List ℕ)) → Piece

-- the first piece of a text, and what stands behind it
abbrev pub Front : Type 0
Front = Option (Piece × List ℕ)

-- NAME:FROM=TO, where the colon stands at this place
abbrev pub after_colon : (inner : List ℕ) (colon : ℕ) (change : List ℕ) → Option ℕ → Piece
after_colon inner colon change None = reference inner whole
after_colon inner colon change (Some equals) = reference (take colon inner) (substituted (take equals change) (drop (equals + 1) change))

abbrev pub at_colon : (inner : List ℕ) → Option ℕ → Piece
at_colon inner None = reference inner whole
at_colon inner (Some colon) = after_colon inner colon (drop (colon + 1) inner) (place_of 61 (drop (colon + 1) inner))

-- NAME, or NAME:FROM=TO, cut at the first `:` and the first `=` behind it. A `:` with no `=` behind it is a part of the name
abbrev pub named : (inner : List ℕ) → Piece
named inner = at_colon inner (place_of 58 inner)

-- a call whose brackets are closed at this place
abbrev pub call_at : (opening close : ℕ) → Function → (text : List ℕ) → Option ℕ → Front
call_at opening close f text None = Some (unclosed, [])
call_at opening close f text (Some end) = Some (call f (arguments_of opening close (most f) (take end text)), drop (end + 1) text)

-- a name that holds references, in brackets that are closed at this place
abbrev pub computed_at : (text : List ℕ) → Option ℕ → Front
computed_at text None = Some (unclosed, [])
computed_at text (Some end) = Some (computed (take end text), drop (end + 1) text)

-- a reference ends at the first closing byte, which stands at this place; if a `$` stands before that, at the one that closes the brackets
abbrev pub reference_at : (opening close : ℕ) (text : List ℕ) → Option ℕ → Front
reference_at opening close text None = Some (unclosed, [])
reference_at opening close text (Some end) =
    if is_some (place_of 36 (take end text)) then computed_at text (closing opening close text)
    else Some (named (take end text), drop (end + 1) text)

-- a function is called where its name stands before the first space, which is at this place
abbrev pub called_or_named : (opening close : ℕ) (text behind : List ℕ) → Option Function → Front
called_or_named opening close text behind None = reference_at opening close text (place_of close text)
called_or_named opening close text behind (Some f) = call_at opening close f behind (closing opening close behind)

abbrev pub bracketed_at : (opening close : ℕ) (text : List ℕ) → Option ℕ → Front
bracketed_at opening close text None = reference_at opening close text (place_of close text)
bracketed_at opening close text (Some space) = called_or_named opening close text (behind_spaces (drop space text)) (function_named (take space text))

-- what stands behind an opening bracket
abbrev pub bracketed : (opening close : ℕ) (text : List ℕ) → Front
bracketed opening close text = bracketed_at opening close text (position is_space text)

-- what stands behind a dollar: another one, brackets, or one byte that is a name. A dollar that ends a text stands for itself
abbrev pub behind_dollar : List ℕ → Front
behind_dollar [] = Some (plain (36 ∷ []), [])
behind_dollar (c ∷ text) =
    if c == 36 then Some (plain (36 ∷ []), text)
    else (if c == 40 then bracketed 40 41 text
    else (if c == 123 then bracketed 123 125 text
    else Some (reference (c ∷ []) whole, text)))

-- bytes that stand for themselves, up to the dollar at this place
abbrev pub plain_until : (b : ℕ) (text : List ℕ) → Option ℕ → Front
plain_until b text None = Some (plain (b ∷ text), [])
plain_until b text (Some end) = Some (plain (b ∷ take end text), drop end text)

abbrev pub front : (text : List ℕ) → Front
front [] = None
front (b ∷ text) = if b == 36 then behind_dollar text else plain_until b text (place_of 36 text)
