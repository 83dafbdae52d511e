-- The model is Looks: looks at files in memory.
pub mod Looks
