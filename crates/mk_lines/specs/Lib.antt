-- Lines: the physical and the logical lines of a text.
pub mod Lines
-- Quoted: colons of names.
pub mod Quoted
-- References: references to macros, and what stands outside them.
pub mod References
-- Search: a rule line read up to its recipe.
pub mod Search
-- Semicolon: rule lines whose recipe begins behind a `;`.
pub mod Semicolon
-- Spelling: which lines and groups of lines are a text's.
pub mod Spelling
-- Text: the bytes that mean something, and what counts as text.
pub mod Text
