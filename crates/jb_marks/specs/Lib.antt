-- Single: the mark of one file, by a look at it.
pub mod Single
-- Each: two lists, place by place.
pub mod Each
-- Before: what is looked at before a recipe.
pub mod Before
-- Recorded: what an entry has of its hidden prerequisites.
pub mod Recorded
-- Sights: the text of what looks told.
pub mod Sights
-- Done: the marks of a 'done'.
pub mod Done
-- Same: files that a recipe left as they were.
pub mod Same
-- Tests: what private functions compute.
pub mod Tests
-- Memory: what a place in memory tells.
pub mod Memory
-- Laws: what the marks of a 'done' come to.
pub mod Laws
