-- Function: the functions and their names. Brackets: where brackets end, and where commas part what stands in them. Piece: what stands at the
-- front of a text. Shown: pieces as the code has them.
pub mod Brackets
pub mod Function
pub mod Piece
pub mod Shown
