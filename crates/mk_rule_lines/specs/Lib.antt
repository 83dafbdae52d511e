-- The model is Kinds and what is told by it: Suffixes and Explicit, with Lines. Rules is what the code does; a law says that both come to
-- the same suffixes.
pub mod Explicit
pub mod Kinds
pub mod Lines
pub mod Patterns
pub mod Pools
pub mod Rules
pub mod Signs
pub mod Suffixes
