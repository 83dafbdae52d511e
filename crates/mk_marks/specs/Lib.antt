-- Said: what a text of marks says.
pub mod Said
-- Marks: a mark as a verdict takes it, and marks one after the other.
pub mod Marks
-- Noted: what the state has of the files of a target as it is now.
pub mod Noted
