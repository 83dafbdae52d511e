-- World: what the outside answers while makefiles are read. Item: what lines say of targets, and why reading ends. Reading: what a text comes to with the
-- files that it includes, as a relation. Shown: the crate's own values as these see them.
pub mod Item
pub mod Reading
pub mod Shown
pub mod World
