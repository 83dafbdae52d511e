-- Cut: texts that are cut at a byte; Cuts says it as a relation. Spelled: what a line says, as it is read; Spelling says it as a relation.
-- Define: what is the body of a `define`. Nest: conditionals that are open. Lines: what lines with conditionals among them give, as a relation; Machine: what they give, read in turn.
pub mod Cut
pub mod Cuts
pub mod Define
pub mod Lines
pub mod Machine
pub mod Nest
pub mod Spelled
pub mod Spelling
