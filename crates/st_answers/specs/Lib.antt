-- what stands in a line of an answer
pub mod Lines
-- the targets of a state, and what is told of one
pub mod Answers
-- the files that a target was made of, and their marks
pub mod Marks
-- what was made of a name
pub mod Users
-- commands with the sources that they name
pub mod Compilations
-- names that are reached from others
pub mod Reached
-- the prerequisites of names, and the edges that are drawn of them
pub mod Graph
-- targets that aren't finished, or whose file isn't the one that was made
pub mod Stale
-- why a target isn't as it was made, down to what is changed behind it
pub mod Why
-- files of targets that may be removed, and what is told of those that stay
pub mod Cleaning
