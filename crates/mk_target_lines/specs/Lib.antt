-- Cut: texts that are cut at a mark. Names: the names of a text. Words: the words of a line that isn't expanded yet. OneLine: the text of several lines as
-- one. Rule: what a line says of targets, as values. Parts: a line up to its colon, as a relation. Comes: what a line comes to, as a relation. Shown: the
-- crate's own values as these see them.
pub mod Comes
pub mod Cut
pub mod Names
pub mod OneLine
pub mod Parts
pub mod Rule
pub mod Shown
pub mod Words
