-- Pieces of a text as the code has them.
use Rattle.std.specs.Prelude.{ℕ, List, Option, option_map}
use Rattle.std.specs.Borrow.{Bor}
use Rattle.mk_pieces.specs.Piece as text
use Rattle.mk_pieces.specs.declared.piece.Use.{Use}
use Rattle.mk_pieces.specs.declared.piece.Use.TheVariants.{Whole, Substituted}
use Rattle.mk_pieces.specs.declared.piece.Piece.{Piece}
use Rattle.mk_pieces.specs.declared.piece.Piece.TheVariants.{Plain, Reference, Unclosed, Computed, Call}

abbrev pub use_of : Use → text.Use
use_of Whole = text.whole
use_of (Substituted from to) = text.substituted from.now to.now

abbrev pub piece_of : Piece → text.Piece
piece_of (Plain bytes) = text.plain bytes.now
piece_of (Reference name taken) = text.reference name.now (use_of taken)
piece_of Unclosed = text.unclosed
piece_of (Computed inner) = text.computed inner.now
piece_of (Call function arguments) = text.call function arguments

-- what `next_piece` answers
abbrev pub front_of : Option (Piece × Bor (List ℕ)) → text.Front
front_of found = option_map (λ f. (piece_of f.0, f.1.now)) found
