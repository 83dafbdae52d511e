-- Both are the model.
-- Blanks: what a blank is, and what the words of a text are.
pub mod Blanks
-- Digits: the number that a text of digits is.
pub mod Digits
-- Held: which bytes a string holds, in the value itself or in a vector.
pub mod Held
-- Pieces: which strings a text and their ends stand for.
pub mod Pieces
-- Texts: which strings lie in a text in which each stands behind its length.
pub mod Texts
