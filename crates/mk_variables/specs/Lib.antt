-- Table: what each name is. Ranks: which of two definitions counts. Definition: what a definition makes of a variable, by its sign. Statement: what
-- a statement makes of the table, as a relation. Exports: what reaches a recipe's environment. Shown: the crate's own values as these see them.
pub mod Definition
pub mod Exports
pub mod Ranks
pub mod Shown
pub mod Statement
pub mod Table
