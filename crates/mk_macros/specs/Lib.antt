-- The model is Ranks, Dynamic, Spelled, Words and Expansion; Reference and Lookup are what the code does.
-- Dynamic: what the macros of a recipe line stand for.
pub mod Dynamic
-- Expansion: what the outcome of a text is.
pub mod Expansion
-- Function: which names spell functions of GNU make.
pub mod Function
-- Lookup: what a reference comes to, by what is known of its macro.
pub mod Lookup
-- Mention: whether a text refers to the list of newer prerequisites.
pub mod Mention
-- Ranks: what is defined for a name, what is in force, and what a name stands for in a line.
pub mod Ranks
-- Reference: the forms that stand at the front of a text.
pub mod Reference
-- Shown: how the crate's own values are seen by the model.
pub mod Shown
-- Simple: what is looked at where an expansion is made without macros' values.
pub mod Simple
-- Spelled: how a text is spelled of the forms at its front.
pub mod Spelled
-- Words: how a reference changes each word of a value.
pub mod Words
